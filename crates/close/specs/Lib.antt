-- What the contracts of the close cite.
pub mod Called
pub mod Worked

-- Laws of the close.
pub mod Lent
mod Worked
pub mod Outcome

-- What the contract of the sixth step cites.
pub mod Sixth
pub mod Named

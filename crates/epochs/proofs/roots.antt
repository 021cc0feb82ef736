-- Laws of the lookups.
pub mod Passed
pub mod Lookups

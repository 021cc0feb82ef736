-- Laws of the last entry, of the entry that an epoch goes by, and of what the tests say once passed.
pub mod Last
pub mod Passed
pub mod Added
mod Put

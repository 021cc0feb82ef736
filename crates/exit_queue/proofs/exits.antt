-- Laws of exits.
pub mod Counts
pub mod Exits
pub mod Limit
pub mod Passed

-- What the tests give once passed.
pub mod Passed

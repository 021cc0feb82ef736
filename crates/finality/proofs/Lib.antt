-- Laws of the finality leaves and tests.
pub mod Passed
pub mod Runs

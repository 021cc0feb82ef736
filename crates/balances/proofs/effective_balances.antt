-- Laws of the step's tests, of its thresholds, and of the step on one validator.
mod Passed
mod Update
pub mod Step

-- Laws of the step.
pub mod Passed
pub mod Totals

-- Laws of the registry step.
pub mod Epochs
pub mod Churn
pub mod Turns
pub mod Step
pub mod Total
pub mod Seen

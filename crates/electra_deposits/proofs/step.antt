-- Laws of the step.
pub mod Front
pub mod Run
pub mod Close

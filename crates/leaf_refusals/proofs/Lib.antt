-- Laws of the leaves' tests.
pub mod Passed
pub mod Shape

-- Laws of the weighing.
pub mod Passed
pub mod Tests
pub mod Weighed

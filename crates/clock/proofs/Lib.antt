-- Laws of the clock's code.
pub mod Steps
pub mod Passed

-- Laws of the tests, for the code that makes them and the code that relies on them.
mod Halves
pub mod Passed

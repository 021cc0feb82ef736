-- Laws of the tests, for the code that makes them and the code that relies on them.
pub mod All
pub mod Part
pub mod Laws
pub mod Answers

-- Laws of the rules' tests.
pub mod Tests

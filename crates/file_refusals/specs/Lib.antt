-- The tests of reading and of writing.
pub mod Tests

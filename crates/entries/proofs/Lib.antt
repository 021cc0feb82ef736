-- Laws that the tests on an entry need.
pub mod Numbers
pub mod Flags

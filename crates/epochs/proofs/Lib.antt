-- What the tests of settings and slot give.
pub mod Passed

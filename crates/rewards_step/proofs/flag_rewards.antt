-- A flag's totals, and the tests.
pub mod Tests
pub mod Totals

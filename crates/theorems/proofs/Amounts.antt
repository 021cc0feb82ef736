-- The law of the amounts, and the test's number.
pub mod Accounted
pub mod Test

-- What contracts of the exit leaf cite.
pub mod Exits
-- What contracts of test 8 cite.
pub mod Found

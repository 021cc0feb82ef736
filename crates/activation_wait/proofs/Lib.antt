-- How many of a range pass a test, and who is ahead.
pub mod Counting
-- What the call answers.
pub mod Waits

-- Laws of test 8, and of calls that are lent the pair.
pub mod Recorded
pub mod Queue
pub mod Found
pub mod Closes

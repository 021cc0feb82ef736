-- The sums of a close, and what its survey finds.
pub mod Sums
pub mod Found

-- What the tests give once passed, the answer by the sums, and that 4 is a root that cannot be looked up.
pub mod Weighed
pub mod Passed
pub mod Answered
pub mod NoRoot

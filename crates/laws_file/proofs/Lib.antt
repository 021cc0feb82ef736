-- Laws of record files, which the proofs of several crates cite.
pub mod Numbers
pub mod Tests
pub mod Passed
pub mod Stopped
pub mod Codes

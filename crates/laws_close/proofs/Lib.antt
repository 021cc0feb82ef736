-- Laws of the close with amounts, which the proofs of several crates cite.
pub mod Amounts
pub mod Passed
-- What a step leaves of what the tests ask.
pub mod Kept

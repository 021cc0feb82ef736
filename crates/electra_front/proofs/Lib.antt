-- Proofs of the steps on the opening's validators.
pub mod Steps
pub mod Threes
pub mod Eights

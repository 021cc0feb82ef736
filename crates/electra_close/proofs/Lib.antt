-- Proofs of the close under Electra.
pub mod Ending
pub mod Steps
pub mod Accepting
pub mod Requires

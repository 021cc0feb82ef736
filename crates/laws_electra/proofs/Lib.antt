-- Laws of Electra's definitions that proofs of several crates cite.
pub mod Cases
pub mod Until
pub mod Registry
pub mod Deposits
pub mod Consolidations

-- phase0/beacon-chain.md
pub mod Helpers
pub mod EpochProcessing

-- altair/beacon-chain.md
pub mod Helpers
pub mod EpochProcessing

pub mod Helpers
pub mod EpochProcessing

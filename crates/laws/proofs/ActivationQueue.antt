-- The activation queue decided validator by validator, and by a cut.
pub mod Filter
pub mod Rank
pub mod Dequeued
pub mod Counts
pub mod Cuts
pub mod Eligible
pub mod Stopped

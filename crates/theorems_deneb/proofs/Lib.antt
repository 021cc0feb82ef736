-- The proofs of the statements in specs/, a list computed, and figures.
pub mod Calls
pub mod Demand3
pub mod ExitEpochs
pub mod Example
pub mod Figures

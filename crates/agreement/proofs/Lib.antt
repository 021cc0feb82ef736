-- The proofs of the statements in specs/, and of those that take a line.
-- Agreement, and which refusals can be answered
pub mod Agrees
pub mod Bellatrix
pub mod Helpers
pub mod Justification
pub mod Inactivity
pub mod Deltas
pub mod Rewards
pub mod Registry
pub mod Slashings
pub mod EffectiveBalances
pub mod Close
pub mod Refused
-- What comes back
pub mod Restored
-- Arithmetic
pub mod Sums

-- One validator's deltas, case by case.
pub mod Flags
pub mod Penalties
mod Penalty

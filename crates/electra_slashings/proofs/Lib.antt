-- Laws of a slashing on one validator, and of the step.
mod Slash
pub mod Slashed

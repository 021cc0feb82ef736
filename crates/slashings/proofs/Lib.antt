-- Laws of the two steps' tests, of the adjusted balance, and of a slashing on one validator.
mod Passed
pub mod Slash
pub mod Adjusted

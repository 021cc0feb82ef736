-- Laws of totals.
mod Genesis
pub mod Sums
pub mod WithRaised

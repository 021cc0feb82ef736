-- What the contracts cite.
pub mod Step
pub mod Totals

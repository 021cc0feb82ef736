-- What the contracts cite.
pub mod Thresholds

-- What the contracts cite.
pub mod Adjusted

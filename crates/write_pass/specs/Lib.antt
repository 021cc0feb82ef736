-- What the contracts cite.
pub mod Filled

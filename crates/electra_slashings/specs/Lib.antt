-- What the contracts cite.
pub mod Slashed

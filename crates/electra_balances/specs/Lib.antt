-- What the contracts cite.
pub mod Own

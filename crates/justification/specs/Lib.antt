-- What the contracts cite.
pub mod Given

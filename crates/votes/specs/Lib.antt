-- What is claimed beside the contracts.
pub mod Laws
-- What the contracts cite.
pub mod Sums
-- What the contracts cite.
pub mod Epochs
pub mod Weighed

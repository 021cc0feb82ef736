-- What the contracts cite.
pub mod Shared

-- The interface.
pub mod Version

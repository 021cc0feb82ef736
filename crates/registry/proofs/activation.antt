-- The laws of the pass that activates.
pub mod Places
pub mod Admitting

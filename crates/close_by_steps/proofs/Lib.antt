-- The step calls as the definition has them.
pub mod Stepped

-- Orders by numbers, one and all.
pub mod Tried

-- The list of at most three, on its numbers.
pub mod Shown

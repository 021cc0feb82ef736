-- The functions on one entry.
mod Copied
mod Entry
pub mod Sweeps

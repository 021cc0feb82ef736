-- Laws of the pass, for what stands on it.
pub mod Entry
pub mod Counting

-- Laws of the loops over entries.
pub mod Chunks
mod Over

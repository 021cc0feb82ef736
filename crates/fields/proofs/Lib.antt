-- Laws of numbers in bytes and of runs of stores.
pub mod Bytes
pub mod Stores

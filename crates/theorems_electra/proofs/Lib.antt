-- The calls' demands, from their contracts.
mod Alike
mod Frames
mod Numbers
pub mod Calls
pub mod Leaves

-- Laws of the end of a close.
pub mod Epochs
mod Written

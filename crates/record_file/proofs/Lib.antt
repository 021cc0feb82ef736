-- Laws of what is read and written.
pub mod Reading
pub mod Writing

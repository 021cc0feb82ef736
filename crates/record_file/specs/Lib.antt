-- The lengths by which a record is put into a file.
pub mod Sized

-- Laws of one file's close on a shelf.
pub mod Tests
pub mod Parts

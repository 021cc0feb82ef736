-- Laws of a shelf.
pub mod Lengths
pub mod Shelving

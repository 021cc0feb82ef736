-- What contracts of those added cite.
pub mod Appended

-- What contracts of the last steps cite.
pub mod Moved
pub mod Added

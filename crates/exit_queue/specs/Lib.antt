-- What contracts of the exit queue cite.
pub mod Queue
pub mod Turns
-- What contracts of exits cite.
pub mod Exits

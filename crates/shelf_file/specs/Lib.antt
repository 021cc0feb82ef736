-- What contracts of one file's close cite.
pub mod Parts

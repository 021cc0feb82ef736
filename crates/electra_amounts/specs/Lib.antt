-- What contracts of the twelve amounts cite.
pub mod Columns

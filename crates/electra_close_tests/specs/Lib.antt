-- What contracts of the close under Electra cite.
pub mod Shaped

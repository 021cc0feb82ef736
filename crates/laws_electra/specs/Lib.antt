-- What contracts of several Electra crates cite.
pub mod Consolidations

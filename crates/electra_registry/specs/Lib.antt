-- What contracts of Electra's registry step cite.
pub mod Turns
pub mod Updates

-- What contracts of the registry step cite.
pub mod Updates

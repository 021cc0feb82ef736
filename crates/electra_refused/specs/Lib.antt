-- What contracts of a refused close cite.
pub mod Outcome

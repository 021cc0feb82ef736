-- A refused close is the definition's.
pub mod Refused

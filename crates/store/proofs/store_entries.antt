-- Laws of a store's entries, for the code that goes through them and the theorems about it.
pub mod Entries
pub mod Sequence

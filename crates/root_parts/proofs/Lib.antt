-- Laws of the lookups, and that number and bytes together are the one definition.
pub mod Lookups
pub mod Roots

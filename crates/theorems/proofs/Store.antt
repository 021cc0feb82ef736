-- The proofs of what is claimed of a store.
pub mod Addition
pub mod Sequence
pub mod ByRead
pub mod OneEntry
pub mod Before
pub mod Calls
pub mod Stages

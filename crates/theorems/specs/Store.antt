-- What is claimed of a store.
pub mod Laws
pub mod Stages

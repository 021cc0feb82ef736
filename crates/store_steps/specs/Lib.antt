-- What contracts of a close by steps with a store cite.
pub mod Called

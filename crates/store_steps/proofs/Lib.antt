-- A close by steps with a store, from the rules that each call was given.
pub mod Steps

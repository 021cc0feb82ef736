-- What a close with a store is, from the rules that it was given.
pub mod Closes

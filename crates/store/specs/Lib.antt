-- What the contracts of reading and adding cite.
pub mod Answers
-- What the contracts of a close with a store cite.
pub mod Called

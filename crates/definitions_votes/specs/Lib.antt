-- R-13: what the justification step can still come to while some target flags are unknown.
pub mod Filling
pub mod Exact
pub mod Votes
pub mod Answers
pub mod Laws

-- One validator's score.
pub mod Scores

-- The proofs, from the ground up.
pub mod Numbers
pub mod Parts
pub mod Refused
pub mod Written
pub mod Accepted
pub mod Stopped
pub mod Sample
pub mod ReadAgain

-- The nine numbers of one validator, and the loop over all.
pub mod Nine
pub mod Booked
mod Between
mod Loop
mod Forks

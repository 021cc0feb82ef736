-- What contracts of the pending deposits cite.
pub mod Alone
pub mod Room
pub mod Written
pub mod Step
pub mod Testing

-- Why what is filled is the amounts.
mod Way
pub mod Booked
pub mod Amounts

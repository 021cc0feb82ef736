-- Laws of the close with pair and amounts.
mod Accepted
mod Worked
pub mod Tests
pub mod Outcome
pub mod Booking

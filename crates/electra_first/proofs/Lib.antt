-- Laws of the first five steps.
pub mod Stops
mod Columns
mod Turning
mod Fused
mod Booked
mod Accepted
mod Firsts
pub mod RegistryIn
pub mod Text

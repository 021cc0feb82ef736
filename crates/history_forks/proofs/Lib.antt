-- The proof of the statement in specs/, and lists computed.
pub mod Order
pub mod Grown
pub mod Registry
pub mod Steps
pub mod Electra
pub mod Next
pub mod Demand3
pub mod Example

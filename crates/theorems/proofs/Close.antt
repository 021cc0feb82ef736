-- Demand 3 of the calls of the function `close`, by its own contract.
pub mod Contract
pub mod Demand3

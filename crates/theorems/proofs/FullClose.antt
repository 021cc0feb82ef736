-- Of every full close: what comes back by its number, demand 2 and demand 3.
pub mod ByNumber
pub mod Demand2
pub mod Demand3
pub mod QueueCalls

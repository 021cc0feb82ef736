-- What holds of every full close.
pub mod ByNumber
pub mod Demand2
pub mod Demand3
pub mod QueueCalls

-- What eight and nine calls with a store leave; demands 2 and 3 of closes with stores, and R-14; runs computed.
pub mod Steps
pub mod Demand2
pub mod Demand3
pub mod ExitEpochs
pub mod Example
pub mod OrdersExample
pub mod Pairs
pub mod Test
pub mod Alone

-- The statements about closes with stores, whole and by steps: what eight and nine calls leave, demands 2 and 3, and R-14.
pub mod Steps
pub mod Demand2
pub mod Demand3
pub mod ExitEpochs
pub mod Pairs
pub mod Test
pub mod Alone

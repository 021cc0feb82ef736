-- Deposits start earning.
pub mod Front
pub mod Shape
pub mod OneClose
pub mod EveryList
pub mod Known
pub mod Loop
pub mod Steps
pub mod Churn
pub mod WholeClose
pub mod Computing
pub mod Small
pub mod Parts
pub mod Needed
pub mod Freedoms
pub mod Wrong
pub mod ExitEpochs

-- What is claimed of lists of closes in which each names any fork. Document 03, F-3.
pub mod Demand3

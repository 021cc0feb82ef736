-- What is claimed of Deneb's calls, and of lists of closes in which each names its fork. Document 03, F-1.
pub mod Calls
pub mod Demand3
pub mod ExitEpochs

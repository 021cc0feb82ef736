-- R-14 and what it rests on.
pub mod Shape
pub mod OneExit
pub mod OneClose
pub mod EveryRun
pub mod Runs
pub mod Example
pub mod Needed
pub mod Wrong

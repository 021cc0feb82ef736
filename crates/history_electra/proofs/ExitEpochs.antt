-- How full an exit epoch gets, and what that rests on.
pub mod OneExit
pub mod EveryRun
pub mod Calls
pub mod Example

-- R-14 of the calls that a user makes.
pub mod ExitCalls

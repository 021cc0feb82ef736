-- Laws of the exit queue.
pub mod Latest
pub mod Tracks
pub mod QueueOf
pub mod Exiting
pub mod Turns
pub mod Cases

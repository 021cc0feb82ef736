-- Laws that the proofs of several crates cite.
pub mod Encode
pub mod Checked
pub mod Rules
pub mod Tests
pub mod Queue
pub mod Loops
pub mod Frame
-- Arithmetic
pub mod Fits
pub mod SquareRoot
pub mod Bounds
-- The definitions' queue and checkpoints
pub mod ActivationQueue
pub mod Moved
pub mod Checkpoints

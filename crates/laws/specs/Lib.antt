-- What contracts of loops over the registry cite.
pub mod Ran
-- What each step writes.
pub mod Frames
-- The square root, and what the tests keep inside 64 bits.
pub mod SquareRoot
pub mod Bounds
-- The activation queue without a sorted list.
pub mod Queue
pub mod Cut
pub mod Stopped

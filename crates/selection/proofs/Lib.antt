-- The laws of the loops.
pub mod Kept
pub mod Picking
pub mod Waiting

-- Why one pass is several, the loop that writes, and what a pass that rescans the registry is.
pub mod Runs
pub mod Pure
pub mod Fused
pub mod Steps
pub mod Writing
pub mod Follows

-- Why the pass is the steps.
pub mod Leak
pub mod Kept
pub mod Only
pub mod Rewards
mod Last
pub mod Made
pub mod Tracked
pub mod Seen
mod Passes
mod Opening
pub mod Accepted
pub mod Steps
pub mod Eights

-- What the contracts cite.
pub mod Planned
pub mod Written
-- What a pass with a carried state is, and what functions on one entry promise their callers.
pub mod Runs
pub mod Sweep
pub mod Steps

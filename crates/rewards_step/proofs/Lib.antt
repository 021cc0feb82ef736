-- The step from its totals, one after the other.
pub mod Step
mod Tests

-- Laws of the turn by its thresholds, and of the loop.
pub mod Turns

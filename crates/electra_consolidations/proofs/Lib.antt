pub mod Consolidating
pub mod Moves
pub mod Closing

-- Laws of the net change.
pub mod Change

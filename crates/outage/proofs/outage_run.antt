-- Laws of a run: one close into any buffers, the slot, and closes one after the other.
pub mod Once
pub mod Slot
pub mod Running

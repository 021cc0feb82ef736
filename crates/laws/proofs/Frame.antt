-- What each step leaves as it was.
pub mod Entries
pub mod Registry
pub mod Frames
pub mod Slot

-- Laws of a preparation: the slot, the root at many slots, and the record as a whole.
pub mod Slots
pub mod Roots
pub mod Prepared

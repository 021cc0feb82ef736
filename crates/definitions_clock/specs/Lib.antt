-- R-11: which second belongs to which slot and epoch, what the calls answer, and what is claimed of them.
pub mod Clock
pub mod Calls
pub mod Laws

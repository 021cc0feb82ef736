-- What a lookup hands back, and as a plain number and bytes.
pub mod Bytes
pub mod Root

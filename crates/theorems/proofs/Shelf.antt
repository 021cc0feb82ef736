pub mod SameClose
pub mod Files
pub mod Roots
pub mod Parts

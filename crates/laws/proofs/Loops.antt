-- The loops over the registry, a file for each shape.
pub mod Entry
pub mod Mapped
pub mod Ran
pub mod Checking
pub mod Reading
pub mod Folded
pub mod Filtered
pub mod Counted
pub mod Tested
pub mod Copied
pub mod Summed
pub mod Iterated

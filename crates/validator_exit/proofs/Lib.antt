-- Laws of the exit leaf.
pub mod Seeing
pub mod InPlace
pub mod Tests
pub mod Found

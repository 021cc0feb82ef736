-- Laws of the registry step as it is called.
pub mod Tests
pub mod Run
pub mod Stops

-- Laws of the steps over the registry.
pub mod Steps
pub mod Justified
pub mod Worked

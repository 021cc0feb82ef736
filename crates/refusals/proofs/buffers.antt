-- From tests and work to what a closing buffer holds.
pub mod Closes
pub mod Chained

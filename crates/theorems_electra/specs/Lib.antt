-- What is shown of the Electra calls.
pub mod Calls
pub mod Leaves

-- What contracts of the close under Electra cite of its steps.
pub mod Last
pub mod Finds

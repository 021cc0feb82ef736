-- What a reader must believe of the whole close under Electra. Its document and its steps stand in definitions_electra.
pub mod Amounts
pub mod Close
pub mod Calls

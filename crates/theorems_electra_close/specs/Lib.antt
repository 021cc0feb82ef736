-- What is proved of the whole close under Electra.
pub mod Accounted
pub mod ByNumber

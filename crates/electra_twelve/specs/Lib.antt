-- What the proof of the close under Electra cites of its amounts.
pub mod Twelve

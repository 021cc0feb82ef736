-- Demand 2 to its last words: the statements. Their proofs stand in proofs/.
pub mod ListByList
pub mod DocumentIn64Bits
pub mod Rows
pub mod Complete
pub mod Records
pub mod Calls
pub mod Told

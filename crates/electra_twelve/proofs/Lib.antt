-- The amounts are the text's.
pub mod Between
pub mod Moves
pub mod Amounts

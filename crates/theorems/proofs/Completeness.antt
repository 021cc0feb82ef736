-- The proofs of the statements in specs/.
-- Checked evaluation: laws, and where the order does not show
pub mod Laws
pub mod Order
-- The rewards list by list
pub mod ListByList
-- The document in 64 bits agrees with the document
pub mod Agrees
-- The Rust's form against it
pub mod Delay
pub mod Steps
pub mod Kept
pub mod Close
pub mod EveryRow
pub mod Records
-- The exported calls
pub mod CloseCalls
pub mod StepCalls
pub mod OtherCalls
-- Shut out
mod Wrong
pub mod Told

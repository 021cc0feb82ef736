-- Its proofs, in the same folders.
pub mod Completeness
pub mod Amounts
pub mod FullClose
pub mod CloseBySteps
pub mod ExitCalls
pub mod Store
pub mod StoreHistory
pub mod Shelf
pub mod Close

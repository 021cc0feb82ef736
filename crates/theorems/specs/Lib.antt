-- What is claimed of the calls and of closes, a folder a subject.
pub mod Completeness
pub mod Amounts
pub mod FullClose
pub mod CloseBySteps
pub mod ExitCalls
pub mod Store
pub mod StoreHistory
pub mod Shelf

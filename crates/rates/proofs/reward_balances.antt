-- What changes is the balance; what refuses does so by overflow.
pub mod Only
pub mod Paired
pub mod Rewarded

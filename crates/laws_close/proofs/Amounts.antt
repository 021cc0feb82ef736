-- The amounts.
pub mod Lists
pub mod Nines
pub mod Eights
pub mod Rewarded
pub mod Slashed
pub mod Kept
pub mod Way

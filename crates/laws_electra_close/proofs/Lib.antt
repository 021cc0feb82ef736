-- Laws of the close under Electra.
pub mod Lists
pub mod Registry
pub mod Slashings
pub mod Beside
pub mod Balances
pub mod Rows

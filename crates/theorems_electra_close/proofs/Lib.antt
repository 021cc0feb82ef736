mod Lists
mod Moves
mod Deposits
mod Effective
mod Rows
mod Steps
pub mod Accounted
pub mod ByNumber
pub mod Call
mod Figures

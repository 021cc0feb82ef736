pub mod Over
pub mod Written

-- Laws of the raised totals.
pub mod Three
pub mod Answered

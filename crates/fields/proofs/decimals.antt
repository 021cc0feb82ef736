-- Laws of decimal numbers and of text put one after the other.
pub mod Decimal
pub mod Right
pub mod Put
mod Signed

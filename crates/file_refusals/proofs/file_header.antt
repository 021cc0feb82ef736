-- Laws of the header's ten numbers.
pub mod Headers

-- What the laws of the amounts speak of.
pub mod Nine

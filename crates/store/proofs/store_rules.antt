-- Laws of the rules that a close with a store goes by.
pub mod Given

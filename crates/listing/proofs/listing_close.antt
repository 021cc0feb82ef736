-- Laws of a listed close.
pub mod Accepted
pub mod Printed

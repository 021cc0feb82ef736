-- What contracts of the steps on the opening's validators cite.
pub mod Later
pub mod Front

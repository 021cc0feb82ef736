-- The round trips of the definitions, at what the functions are handed and answer.
pub mod Types
pub mod RoundTrips
pub mod Needed

-- Document 01's claims about the record file.
pub mod RoundTrip
pub mod Refused
-- Both round trips, of the functions.
pub mod Functions
-- A closed part of a shelf is read again.
pub mod ReadAgain

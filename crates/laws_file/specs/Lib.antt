-- Where reading a file stops.
pub mod Stopped

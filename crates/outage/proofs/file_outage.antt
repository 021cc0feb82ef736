-- Laws of trying an outage: where the file ends, and the text.
pub mod Ends
pub mod Front

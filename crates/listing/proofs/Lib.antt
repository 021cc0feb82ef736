-- Laws of a listing: reading, closing, the text, and its room.
pub mod Opened
pub mod Closing
pub mod Printed
pub mod Enough

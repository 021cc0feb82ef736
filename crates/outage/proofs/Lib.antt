-- Laws of trying an outage: the text by what was read, the record that it begins with, and the buffers.
pub mod Text
pub mod Ended
pub mod Filled
pub mod Fronts

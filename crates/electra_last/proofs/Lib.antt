-- Laws of the last steps.
mod Moving
mod Appending

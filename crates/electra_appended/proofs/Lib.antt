-- Laws of those added.
mod Updated
mod Six
mod Appended

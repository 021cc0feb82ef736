-- What contracts of the first five steps cite.
pub mod Paid
pub mod Taken
pub mod First
pub mod Numbers

-- The clock's laws and figures.
pub mod Numbers
pub mod Calls
pub mod Laws
pub mod Figures

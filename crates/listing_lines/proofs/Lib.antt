-- Laws of the listing's lines.
pub mod Fitting
pub mod HeadNumbers
pub mod LineNumbers
pub mod Lines

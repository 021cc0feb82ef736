-- The ten steps are the text's.
pub mod Last
pub mod Whole
pub mod InPlace
pub mod Parted

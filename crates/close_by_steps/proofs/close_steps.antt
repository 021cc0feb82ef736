-- What comes of a call once its tests have passed.
pub mod Done

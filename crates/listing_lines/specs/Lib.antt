-- What contracts of the lines cite.
pub mod Told
-- What contracts of their text cite.
pub mod Sizes

-- What contracts of exit orders cite.
pub mod Tried
-- What contracts of the ninth call cite.
pub mod Ninth

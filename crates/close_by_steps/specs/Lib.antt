-- What contracts of the step calls cite.
pub mod Stepped
-- What contracts of a close by steps cite.
pub mod Called
pub mod Ready
-- What contracts of the later steps cite.
pub mod Later
-- What contracts of the slashings step that books cite.
pub mod Taken
-- What contracts of the rewards step that books cite.
pub mod Booked

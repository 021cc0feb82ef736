-- What contracts of step 8 at those added cite.
pub mod New

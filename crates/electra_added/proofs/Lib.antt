-- Laws of the sixth step's loop over lent lists, and of step 8 at those whom it adds.
pub mod Sixth
pub mod New

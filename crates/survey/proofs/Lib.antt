-- Laws of the survey.
pub mod Raised
pub mod Found

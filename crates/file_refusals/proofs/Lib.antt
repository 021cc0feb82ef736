-- Laws of the tests of reading and of writing.
pub mod Registry
pub mod ReadTests
pub mod WriteTests

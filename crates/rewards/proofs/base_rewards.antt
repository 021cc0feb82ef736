-- The base reward's refusals, and its tests.
pub mod Base
pub mod Tests

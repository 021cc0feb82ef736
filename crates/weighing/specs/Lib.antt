-- What one epoch's part of the weighing answers.
pub mod Tests

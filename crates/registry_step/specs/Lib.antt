-- The step's tests as the code groups them, and the step by its numbers.
pub mod First
pub mod Cut

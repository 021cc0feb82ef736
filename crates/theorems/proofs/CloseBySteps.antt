-- A record that passed the tests passes them after each step
pub mod Tests
-- What eight calls leave
pub mod Folded
pub mod Amounts
pub mod Turns
pub mod Eight
-- and nine
pub mod Nine
-- and demand 3
pub mod Orders
pub mod Demand3
pub mod Example

-- Laws of Electra's registry step.
pub mod Turns
pub mod Limits
pub mod Text
pub mod Active
pub mod Loop
pub mod Moves
pub mod Closes

-- The statement of demand 3.
pub mod Events
pub mod Demand3
-- The statement of R-14.
pub mod ExitEpochs
-- How long a validator waits, as the call answers it.
pub mod Wait

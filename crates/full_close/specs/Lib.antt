-- What the contracts cite.
pub mod Called
pub mod Worked
-- What the contract cites.
pub mod StepAmounts

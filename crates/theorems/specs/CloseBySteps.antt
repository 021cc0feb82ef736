-- What is shown of a close that is run one step a call, and of exit orders (R-9).
pub mod Desk
pub mod Demand3

-- What a reader must believe of the close that a user calls, and of the other calls that are lent the exit queue's pair.
pub mod FullClose
pub mod QueueCalls
-- What a reader must believe of the amounts that a close books (R-4), and of the test that set the finalized checkpoint.
pub mod Amounts
pub mod FinalizingTest
-- What a reader must believe of the justification step's answer.
pub mod Justification
-- What a reader must believe of a close that is run one step a call, and of exit orders (R-9).
pub mod CloseBySteps
pub mod Orders
-- What a reader must believe of settings by starting epoch (02, R-10).
pub mod Store
pub mod StoreClose
pub mod StoreSteps
-- How the contracts put what is lent into these records.
pub mod Calls

-- The statement of 03, F-3, "Deposits start earning".
pub mod Events
pub mod DepositsEarn
-- The statement of 03, F-3, "How full an exit epoch gets".
pub mod ExitEpochs

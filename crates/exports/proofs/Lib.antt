-- Demands 2 and 3 of the calls, Electra's close with its deposits and exits, R-4's test,
-- R-8's pair, R-10's reading and R-14.
pub mod Closes
pub mod StepCalls
pub mod ShelfCalls
pub mod Pairs
pub mod Reading
pub mod Tests
pub mod Demand3
pub mod ExitEpochs
pub mod Demand2
pub mod ElectraCalls
pub mod DenebCalls
pub mod ElectraClose

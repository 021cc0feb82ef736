-- phase0, Altair, Bellatrix, Capella and Deneb beacon-chain.md over natural numbers, in the documents' names and order. It cannot refuse;
-- where its uint64 would is said in theorems, Completeness/DocumentIn64Bits.antt.
-- A helper is handed the parts of the state that it reads; a set of indices is a test on the validator, or the list of those that
-- pass it; a loop whose turns write only their own validator is a `map`. docs/DIFFERENCES.md names the version.
pub mod Phase0
pub mod Altair
pub mod Bellatrix
pub mod Capella
pub mod Deneb
pub mod ByFork

use Rattle.electra_consolidations.proofs.Consolidating.{moved-ran}
use Rattle.electra_consolidations.proofs.consolidate.Goals as goal

pub returns : goal.returns
returns c = moved-ran _ _ _ _ c.requires.0 c.requires.1 c.requires.2 c.consolidated_balance-moved.ensures c.entry_decrease_balance.ensures c.entry_increase_balance.ensures

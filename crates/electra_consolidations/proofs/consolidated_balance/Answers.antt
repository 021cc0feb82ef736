use Rattle.electra_consolidations.proofs.Consolidating.{balance-moved}
use Rattle.electra_consolidations.proofs.consolidated_balance.Goals as goal

pub returns : goal.returns
returns c = balance-moved _ _ _ c.requires.0 c.requires.1 c.min.ensures

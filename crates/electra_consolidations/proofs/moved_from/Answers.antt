use Rattle.electra_consolidations.proofs.Consolidating.{moves-slashed, moves-balance}
use Rattle.electra_consolidations.proofs.moved_from.Goals as goal

pub returns-then-registry-source-eq1 : goal.returns-then-registry-source-eq1
returns-then-registry-source-eq1 c = moves-slashed _ _ _ 0 c.requires.0 c.requires.1 c.if-registry-source-eq1.true

pub returns : goal.returns
returns c = moves-balance _ _ _ 0 c.requires.0 c.requires.1 c.if-registry-source-eq1.false c.consolidated_balance.ensures

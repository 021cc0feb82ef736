use Rattle.electra_consolidations.proofs.Consolidating.{turn-slashed, turn_moved}
use Rattle.electra_consolidations.proofs.consolidation_turn.Goals as goal

pub returns-then-registry-source-eq1 : goal.returns-then-registry-source-eq1
returns-then-registry-source-eq1 c = turn-slashed _ _ _ _ c.requires.0 c.requires.1 c.if-registry-source-eq1.true

pub returns : goal.returns
returns c = turn_moved _ _ _ _ c.requires.0 c.requires.1 c.if-registry-source-eq1.false c.consolidate.ensures

use Rattle.electra_consolidations.proofs.Consolidating.{stops-slashed, stops-later}
use Rattle.electra_consolidations.proofs.stops_at.Goals as goal

pub returns-then-registry-source-eq1 : goal.returns-then-registry-source-eq1
returns-then-registry-source-eq1 c = stops-slashed _ _ _ 0 c.requires.0 c.requires.1 _ c.if-registry-source-eq1.true

pub returns : goal.returns
returns c = stops-later _ _ _ 0 c.requires.0 c.requires.1 _ c.if-registry-source-eq1.false

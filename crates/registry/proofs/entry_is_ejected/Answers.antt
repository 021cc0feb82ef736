use Rattle.definitions.specs.Document.Phase0.EpochProcessing.{is_ejected}
use Rattle.refusals.proofs.All.{fails, passes}
use mathlib.Core.Path.{ap}
use mathlib.Core.Bool.{not}
use Rattle.registry.proofs.entry_is_ejected.Goals as goal

pub returns-then-not-entry_is_active : goal.returns-then-not-entry_is_active
unfolding is_ejected
returns-then-not-entry_is_active c = rw (fails c.entry_is_active.ensures (ap not c.if-not-entry_is_active.true))

pub returns : goal.returns
unfolding is_ejected
returns c = rw (passes c.entry_is_active.ensures (ap not c.if-not-entry_is_active.false))

use borrow.Author.Tests.{not-true, not-false}
use Rattle.registry.proofs.Turns.{turn-stays, turn-exits}
use mathlib.Core.Path.{ap}
use mathlib.Core.Bool.{not}
use Rattle.registry.proofs.update_entry.Goals as goal

pub returns-then-not-entry_is_ejected : goal.returns-then-not-entry_is_ejected
returns-then-not-entry_is_ejected c = turn-stays _ _ _ _ _ c.entry_queue_eligible.ensures c.entry_is_ejected.ensures (not-true _ (ap not c.if-not-entry_is_ejected.true))

pub returns : goal.returns
returns c = turn-exits _ _ _ _ _ c.entry_queue_eligible.ensures c.entry_is_ejected.ensures (not-false _ (ap not c.if-not-entry_is_ejected.false)) c.exit_entry.ensures

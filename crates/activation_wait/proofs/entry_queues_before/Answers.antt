use mathlib.Core.Path.{sym, ◌∙◌}
use borrow.Author.Tests.{not-true, not-false, lt-ltb, le-ltb, eq-eqb, ne_eqb}
use mathlib.Core.Path.{ap}
use mathlib.Core.Bool.{not}
use Rattle.activation_wait.proofs.entry_queues_before.Goals as goal

pub returns-then-not-entry_is_eligible_for_activation : goal.returns-then-not-entry_is_eligible_for_activation
returns-then-not-entry_is_eligible_for_activation c = rw (sym c.entry_is_eligible_for_activation.ensures ∙ not-true _ (ap not c.if-not-entry_is_eligible_for_activation.true))

pub returns-then-own-since : goal.returns-then-own-since
returns-then-own-since c = rw (sym c.entry_is_eligible_for_activation.ensures ∙ not-false _ (ap not c.if-not-entry_is_eligible_for_activation.false), lt-ltb _ _ c.if-own-since.true)

pub returns-then-own-since-2 : goal.returns-then-own-since-2
returns-then-own-since-2 c = rw (sym c.entry_is_eligible_for_activation.ensures ∙ not-false _ (ap not c.if-not-entry_is_eligible_for_activation.false), le-ltb _ _ c.if-own-since.false, ne_eqb _ _ c.if-own-since-2.true)

pub returns : goal.returns
returns c = rw (sym c.entry_is_eligible_for_activation.ensures ∙ not-false _ (ap not c.if-not-entry_is_eligible_for_activation.false), le-ltb _ _ c.if-own-since.false, eq-eqb _ _ c.if-own-since-2.false)

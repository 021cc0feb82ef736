use mathlib.Core.Path.{ap, ◌∙◌}
use native.Mathlib.Omega.{arith}
use borrow.Author.Tests.{not-true, not-false}
use Rattle.laws.proofs.Loops.Entry.{entry-ten}
use Rattle.activation_wait.proofs.Waits.{wait-none, wait-some}
use mathlib.Core.Bool.{not}
use Rattle.activation_wait.proofs.wait_core.Goals as goal

pub returns-then-not-entry_is_eligible_for_activation : goal.returns-then-not-entry_is_eligible_for_activation
returns-then-not-entry_is_eligible_for_activation c = c.no_wait.ensures ∙ wait-none _ _ _ _ _ c.requires.0 c.requires.1 c.entry_is_eligible_for_activation.ensures (not-true _ (ap not c.if-not-entry_is_eligible_for_activation.true))

pub closes_for-requires : goal.closes_for-requires
closes_for-requires c =
    let few = c.count_ahead-k.ensures.upper_bound in
    omega (arith, few, c.requires.0)

pub returns : goal.returns
returns c = rw c.closes_for.ensures (wait-some _ _ _ _ _ c.requires.0 c.requires.1 c.entry_is_eligible_for_activation.ensures (not-false _ (ap not c.if-not-entry_is_eligible_for_activation.false)) c.count_ahead-k.ensures.value)

pub entry_is_eligible_for_activation-requires : goal.entry_is_eligible_for_activation-requires
entry_is_eligible_for_activation-requires c = entry-ten _ _ _ c.requires.0 c.requires.1

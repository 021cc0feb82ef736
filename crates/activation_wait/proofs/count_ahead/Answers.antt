use mathlib.Core.Path.{refl, ◌∙◌}
use native.Mathlib.Omega.{arith}
use borrow.Author.Tests.{not-true, not-false}
use Rattle.laws.proofs.Loops.Entry.{entry-ten}
use Rattle.activation_wait.proofs.Counting.{below_none, below_yes, below-no, entry-ahead, counted-ahead}
use mathlib.Core.Path.{ap}
use mathlib.Core.Bool.{not}
use Rattle.activation_wait.proofs.count_ahead.Goals as goal

pub entry_queues_before-requires : goal.entry_queues_before-requires
entry_queues_before-requires c = entry-ten _ _ _ c.requires.0 c.loop-j-test.true

pub loop-j-preserved-then-not-entry_queues_before : goal.loop-j-preserved-then-not-entry_queues_before
loop-j-preserved-then-not-entry_queues_before c =
    let inv = c.loop-j.invariant in
    let told = c.entry_queues_before.ensures ∙ entry-ahead _ _ _ c.requires.0 _ c.requires.1 _ c.loop-j-test.true refl in
    (below-no inv.0 told (not-true _ (ap not c.if-not-entry_queues_before.true)), omega (arith, c.loop-j-test.true))

pub loop-j-preserved : goal.loop-j-preserved
loop-j-preserved c =
    let inv = c.loop-j.invariant in
    let told = c.entry_queues_before.ensures ∙ entry-ahead _ _ _ c.requires.0 _ c.requires.1 _ c.loop-j-test.true refl in
    (below_yes inv.0 told (not-false _ (ap not c.if-not-entry_queues_before.false)), omega (arith, c.loop-j-test.true))

pub returns : goal.returns
returns c =
    let inv = c.loop-j.invariant in
    record { value = counted-ahead _ _ _ c.requires.0 _ c.requires.1 inv.0 inv.1 c.loop-j-test.false; upper_bound = omega (arith, inv.0.most, inv.1) }

pub loop-j-init : goal.loop-j-init
loop-j-init c = (below_none _, omega arith)

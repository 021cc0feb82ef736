use mathlib.Core.Path.{◌∙◌}
use borrow.Author.Tests.{eq-eqb}
use Rattle.definitions_close.specs.CloseBySteps.{unwritten}
use Rattle.definitions_close.specs.StoreSteps.{StoreStepCall, store_step}
use Rattle.refusals.proofs.All.{fails, passes}
use Rattle.definitions_close.specs.Calls.{lent, store_called, store_step_called}
use Rattle.store_steps.proofs.Steps.{out_of_turn, first, later}
use mathlib.Core.Path.{ap}
use mathlib.Core.Bool.{not}
use Rattle.store_steps.proofs.store_step.Goals.{Start}
use Rattle.store_steps.proofs.store_step.Goals as goal

abbrev call : Start → StoreStepCall
call s =
    let a = s.args in
    store_step_called a.number a.running (store_called (lent a.store.now a.count) a.finality a.queue a.registry.now a.slashings.now a.roots.now a.closing_registry.now a.closing_slashings.now a.amounts.now)

pub returns-then-done-eq9 : goal.returns-then-done-eq9
unfolding store_step unwritten
returns-then-done-eq9 c = rw (eq-eqb _ _ c.if-done-eq9.true)

pub returns-then-not-in_turn : goal.returns-then-not-in_turn
returns-then-not-in_turn c =
    rw c.turned_away.ensures (out_of_turn (call (goal.at.returns-then-not-in_turn c).Start) c.if-done-eq9.false (fails c.in_turn.ensures (ap not c.if-not-in_turn.true)))

pub returns-then-done-eq0 : goal.returns-then-done-eq0
returns-then-done-eq0 c =
    c.first_step.ensures ∙ first (call (goal.at.returns-then-done-eq0 c).Start) c.if-done-eq9.false (passes c.in_turn.ensures (ap not c.if-not-in_turn.false)) c.if-done-eq0.true

pub returns : goal.returns
returns c =
    c.later_step.ensures ∙ later (call (goal.at.returns c).Start) c.if-done-eq9.false (passes c.in_turn.ensures (ap not c.if-not-in_turn.false)) c.if-done-eq0.false

use Rattle.full_close.specs.Called.{full_called}
use mathlib.Core.Path.{◌∙◌}
use borrow.Author.Tests.{eq-eqb}
use Rattle.definitions_close.specs.CloseBySteps.{unwritten, close_step}
use Rattle.close_by_steps.specs.Called.{step_called}
use Rattle.close_by_steps.proofs.Stepped.{in_turn_lem, too_late, another}
use Rattle.close_by_steps.proofs.close_step.Goals as goal

pub returns-then-done-eq9 : goal.returns-then-done-eq9
unfolding close_step unwritten
returns-then-done-eq9 c = rw (eq-eqb _ _ c.if-done-eq9.true)

pub returns-then-done-gt7 : goal.returns-then-done-gt7
returns-then-done-gt7 c = let a = c.args in rw c.turned_away.ensures (too_late (step_called a.number a.running (full_called a.rules a.finality a.queue a.registry.now a.slashings.now a.roots.now a.closing_registry.now a.closing_slashings.now a.amounts.now)) c.if-done-eq9.false c.if-done-gt7.true)

pub returns-then-number-done : goal.returns-then-number-done
returns-then-number-done c = let a = c.args in rw c.turned_away-then-number-done.ensures (another (step_called a.number a.running (full_called a.rules a.finality a.queue a.registry.now a.slashings.now a.roots.now a.closing_registry.now a.closing_slashings.now a.amounts.now)) c.if-done-eq9.false c.if-number-done.true)

pub returns-then-done-eq0 : goal.returns-then-done-eq0
returns-then-done-eq0 c = let a = c.args in c.first_call.ensures.is a.number a.running c.if-done-eq0.true ∙ in_turn_lem (step_called a.number a.running (full_called a.rules a.finality a.queue a.registry.now a.slashings.now a.roots.now a.closing_registry.now a.closing_slashings.now a.amounts.now)) c.if-done-eq9.false c.if-done-gt7.false c.if-number-done.false

pub returns : goal.returns
returns c = let a = c.args in c.later_call.ensures.is a.number ∙ in_turn_lem (step_called a.number a.running (full_called a.rules a.finality a.queue a.registry.now a.slashings.now a.roots.now a.closing_registry.now a.closing_slashings.now a.amounts.now)) c.if-done-eq9.false c.if-done-gt7.false c.if-number-done.false

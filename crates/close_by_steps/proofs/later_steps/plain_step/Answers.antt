use borrow.Author.Tests.{eq-eqb, ne_eqb}
use Rattle.laws.proofs.Loops.Ran.{ran-value}
use Rattle.close_by_steps.specs.Later.{plain_by}
use Rattle.close_by_steps.proofs.later_steps.plain_step.Goals as goal

pub returns-then-done-eq1 : goal.returns-then-done-eq1
unfolding plain_by
returns-then-done-eq1 c = rw (eq-eqb _ _ c.if-done-eq1.true) c.inactivity_core.ensures

pub returns-then-done-eq3 : goal.returns-then-done-eq3
unfolding plain_by
returns-then-done-eq3 c = rw (ne_eqb _ _ c.if-done-eq1.false, eq-eqb _ _ c.if-done-eq3.true) c.registry_in_place.ensures

pub returns-then-done-eq5 : goal.returns-then-done-eq5
unfolding plain_by
returns-then-done-eq5 c = rw (ne_eqb _ _ c.if-done-eq1.false, ne_eqb _ _ c.if-done-eq3.false, eq-eqb _ _ c.if-done-eq5.true) c.effective_balances_core.ensures

pub returns : goal.returns
unfolding plain_by
returns c = rw (ne_eqb _ _ c.if-done-eq1.false, ne_eqb _ _ c.if-done-eq3.false, ne_eqb _ _ c.if-done-eq5.false) (ran-value c.participation_flags_core.ensures)

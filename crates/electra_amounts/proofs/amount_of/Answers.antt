use borrow.Author.Tests.{eq-eqb, ne_eqb}
use Rattle.electra_amounts.specs.Columns.{booked_by}
use Rattle.electra_amounts.proofs.amount_of.Goals as goal

pub returns-then-op-eq0 : goal.returns-then-op-eq0
unfolding booked_by
returns-then-op-eq0 c kept balance = rw (eq-eqb _ _ c.if-op-eq0.true)

pub returns-then-op-eq1 : goal.returns-then-op-eq1
unfolding booked_by
returns-then-op-eq1 c kept balance = rw (ne_eqb _ _ c.if-op-eq0.false, eq-eqb _ _ c.if-op-eq1.true)

pub returns : goal.returns
unfolding booked_by
returns c kept balance = rw (ne_eqb _ _ c.if-op-eq0.false, ne_eqb _ _ c.if-op-eq1.false)

use borrow.Author.Tests.{eq-eqb, ne_eqb}
use Rattle.registry_close.specs.Worked.{total_of}
use Rattle.registry_close.proofs.total_of.Goals as goal

pub returns-then-over-ne0 : goal.returns-then-over-ne0
unfolding total_of
returns-then-over-ne0 c = rw (ne_eqb _ 0 c.if-over-ne0.true)

pub returns : goal.returns
unfolding total_of
returns c = rw (eq-eqb _ 0 c.if-over-ne0.false, c.total_from.ensures)

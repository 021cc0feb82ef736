use borrow.Author.Tests.{eq-eqb, ne_eqb}
use Rattle.electra_last.proofs.added_value.Goals as goal

pub returns-then-p-eq9 : goal.returns-then-p-eq9
returns-then-p-eq9 c = rw (eq-eqb _ _ c.if-p-eq9.true)

pub returns : goal.returns
returns c = rw (ne_eqb _ _ c.if-p-eq9.false)

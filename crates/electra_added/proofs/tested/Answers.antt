use borrow.Author.Tests.{eq-eqb, ne_eqb}
use Rattle.electra_added.proofs.tested.Goals as goal

pub returns-then-added-ne0 : goal.returns-then-added-ne0
returns-then-added-ne0 c = rw (ne_eqb _ _ c.if-added-ne0.true)

pub returns-then-fits : goal.returns-then-fits
returns-then-fits c = rw (eq-eqb _ _ c.if-added-ne0.false, c.if-fits.true)

pub returns : goal.returns
returns c = rw (eq-eqb _ _ c.if-added-ne0.false, c.if-fits.false)

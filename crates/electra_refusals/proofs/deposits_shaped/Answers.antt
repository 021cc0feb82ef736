use borrow.Author.Tests.{eq-eqb, ne_eqb}
use Rattle.definitions_electra.specs.Refusals.{deposits_shaped}
use Rattle.electra_refusals.proofs.deposits_shaped.Goals as goal

pub returns-then-n-ne0 : goal.returns-then-n-ne0
unfolding deposits_shaped
returns-then-n-ne0 c = rw (ne_eqb _ _ c.if-n-ne0.true)

pub returns : goal.returns
unfolding deposits_shaped
returns c = rw (eq-eqb _ _ c.if-n-ne0.false)

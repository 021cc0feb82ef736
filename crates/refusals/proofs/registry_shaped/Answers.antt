use borrow.Author.Tests.{eq-eqb, ne_eqb}
use Rattle.definitions.specs.Refusals.{registry_shaped}
use Rattle.refusals.proofs.registry_shaped.Goals as goal

pub returns-then-n-ne0 : goal.returns-then-n-ne0
unfolding registry_shaped
returns-then-n-ne0 c = rw (ne_eqb _ _ c.if-n-ne0.true)

pub returns : goal.returns
unfolding registry_shaped
returns c = rw (eq-eqb _ _ c.if-n-ne0.false)

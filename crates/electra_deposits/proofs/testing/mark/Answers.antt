use borrow.Author.Tests.{eq-eqb, ne_eqb}
use mathlib.Core.Path.{refl}
use Rattle.electra_deposits.proofs.testing.mark.Goals as goal

pub returns-then-downward-eq0 : goal.returns-then-downward-eq0
returns-then-downward-eq0 c = rw (eq-eqb _ _ c.if-downward-eq0.true) refl

pub returns : goal.returns
returns c = rw (ne_eqb _ _ c.if-downward-eq0.false) refl

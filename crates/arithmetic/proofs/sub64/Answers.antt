use native.Mathlib.Omega.{arith}
use borrow.Author.Tests.{le-leb, lt-leb}
use Rattle.definitions.specs.Checked.{sub64}
use Rattle.arithmetic.proofs.Operations.{told}
use Rattle.arithmetic.proofs.sub64.Goals as goal

pub returns : goal.returns
unfolding sub64
returns c = told _ _ _ c.ok_or.ensures.value c.checked_sub.ensures (λ p. le-leb _ _ p) (λ p. lt-leb _ _ (omega (arith, p)))

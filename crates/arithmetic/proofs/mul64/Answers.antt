use mathlib.Core.Path.{sym}
use native.Mathlib.Omega.{arith}
use native.Mathlib.Nat.{zero-mul}
use Rattle.definitions.specs.Checked.{mul64}
use Rattle.arithmetic.proofs.Operations.{mul64-refused, product-fits, product-over, small-fits}
use Rattle.laws.proofs.Fits.{mul64-fits}
use Rattle.arithmetic.proofs.mul64.Goals as goal

pub returns-then-b-lt4294967296 : goal.returns-then-b-lt4294967296
returns-then-b-lt4294967296 c = sym (mul64-fits _ _ (small-fits _ _ c.if-a-lt4294967296.true c.if-b-lt4294967296.true))

pub returns-then-a-eq0 : goal.returns-then-a-eq0
unfolding mul64
returns-then-a-eq0 c = rw (c.if-a-eq0.true, zero-mul)

pub returns-then-a-b : goal.returns-then-a-b
returns-then-a-b c = sym (mul64-refused _ _ (product-over _ _ c.if-a-eq0.false c.if-a-b.true))

pub overflow_mul-result-2 : goal.overflow_mul-result-2
overflow_mul-result-2 c = record { fits = product-fits _ _ c.if-a-eq0.false c.if-a-b.false }

pub returns : goal.returns
returns c = sym (mul64-fits _ _ (product-fits _ _ c.if-a-eq0.false c.if-a-b.false))

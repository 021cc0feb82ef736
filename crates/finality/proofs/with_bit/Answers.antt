use native.Mathlib.Omega.{arith}
use borrow.Author.Tests.{eq-eqb, ne_eqb}
use Rattle.finality.proofs.with_bit.Goals as goal

pub returns-then-bits-weight-eq1 : goal.returns-then-bits-weight-eq1
returns-then-bits-weight-eq1 c = record { is = rw (c.if-hit.true, eq-eqb _ _ c.if-bits-weight-eq1.true); most = omega arith }

pub returns-then-hit : goal.returns-then-hit
returns-then-hit c = record { is = rw (c.if-hit.true, ne_eqb _ _ c.if-bits-weight-eq1.false); most = omega arith }

pub returns : goal.returns
returns c = record { is = rw c.if-hit.false; most = omega arith }

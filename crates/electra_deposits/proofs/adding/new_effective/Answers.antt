use native.Mathlib.Nat.{mod-le}
use borrow.Author.Tests.{eq-eqb, ne_eqb}
use native.Mathlib.Omega.{arith}
use Rattle.electra_deposits.proofs.adding.new_effective.Goals as goal

pub overflow_sub-rounded : goal.overflow_sub-rounded
overflow_sub-rounded c = omega (arith, mod-le c.args.d.amount c.args.k.increment)

pub returns-then-d-eq1 : goal.returns-then-d-eq1
returns-then-d-eq1 c = rw (eq-eqb _ _ c.if-d-eq1.true) c.min.ensures

pub returns : goal.returns
returns c = rw (ne_eqb _ _ c.if-d-eq1.false) c.min-2.ensures

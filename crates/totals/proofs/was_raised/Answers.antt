use native.Mathlib.Omega.{arith}
use borrow.Author.Tests.{lt-ltb, le-ltb}
use Rattle.totals.proofs.was_raised.Goals as goal

pub returns-then-sum-increment : goal.returns-then-sum-increment
returns-then-sum-increment c = let a = c.args in rw (lt-ltb a.sum a.increment (omega (arith, c.if-sum-increment.true)))

pub returns : goal.returns
returns c = let a = c.args in rw (le-ltb a.sum a.increment (omega (arith, c.if-sum-increment.false)))

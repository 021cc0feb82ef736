use native.Mathlib.Omega.{arith}
use Rattle.totals.proofs.activation_limit.Goals as goal

pub returns-in-AtMost : goal.returns-in-AtMost
returns-in-AtMost c = rw c.in-AtMost.is (omega (arith, c.min.ensures))

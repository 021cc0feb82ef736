use Rattle.std.proofs.Common.{◌+◌, ◌^◌, arith, le-ltb, lt-ltb}
use Rattle.survey.specs.Found.{over_after}
use Rattle.survey.proofs.over_after.Goals as goal

pub returns-then-sum-weight : goal.returns-then-sum-weight
unfolding over_after
returns-then-sum-weight c = let a = c.args in rw (le-ltb (a.sum + a.weight) (2 ^ 64) (omega arith))

pub returns : goal.returns
unfolding over_after
returns c = let a = c.args in rw (lt-ltb (a.sum + a.weight) (2 ^ 64) (omega arith))

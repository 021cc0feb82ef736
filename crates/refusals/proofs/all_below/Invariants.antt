use Prim.Native.Nat.{◌-◌}
use lib.Dec.{ltb}
use Rattle.refusals.proofs.All.{Passed}
use Rattle.refusals.proofs.all_below.Given as goal

abbrev pub invariant-loop-n : goal.invariant-loop-n
invariant-loop-n l = Passed (λ n. ltb n l.bound) l.numbers l.n-index

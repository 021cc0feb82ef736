use mathlib.Core.Bool.{not}
use Prim.Native.Nat.{◌-◌}
use lib.Dec.{eqb}
use Rattle.refusals.proofs.All.{Passed}
use Rattle.refusals.proofs.none_zero.Given as goal

abbrev pub invariant-loop-n : goal.invariant-loop-n
invariant-loop-n l = Passed (λ n. not (eqb n 0)) l.numbers l.n-index

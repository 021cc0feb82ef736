use Prim.Native.Nat.{◌-◌}
use Rattle.electra_last.proofs.Appending.{Appending}
use Rattle.electra_last.proofs.append_amounts.Given as goal

abbrev pub invariant-loop-k : goal.invariant-loop-k
invariant-loop-k l = Appending l.n l.count l.registry l.initial.amounts l.k l.amounts

abbrev pub decreases-loop-k : goal.decreases-loop-k
decreases-loop-k l = l.long - l.k

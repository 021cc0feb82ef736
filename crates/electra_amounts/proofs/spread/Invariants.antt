use Prim.Native.Nat.{◌-◌}
use Rattle.electra_amounts.proofs.Spreading.{Spreading}
use Rattle.electra_amounts.proofs.spread.Given as goal

abbrev pub invariant-loop-k : goal.invariant-loop-k
invariant-loop-k l = Spreading l.initial.amounts l.k l.amounts

abbrev pub decreases-loop-k : goal.decreases-loop-k
decreases-loop-k l = l.long - l.k

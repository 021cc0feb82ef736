use Prim.Native.Nat.{◌-◌}
use Rattle.electra_registry.proofs.Moves.{Updating}
use Rattle.electra_registry.proofs.updates.update_all.Given as goal

abbrev pub invariant-loop-i : goal.invariant-loop-i
invariant-loop-i l = Updating l.n l.fn.first l.count l.initial.registry l.i l.registry l.churn

abbrev pub decreases-loop-i : goal.decreases-loop-i
decreases-loop-i l = l.count - l.i

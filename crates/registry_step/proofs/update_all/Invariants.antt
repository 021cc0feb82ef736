use Prim.Native.Nat.{◌-◌}
use Rattle.registry.specs.Updates.{least_exit}
use Rattle.registry.proofs.Turns.{Updating}
use Rattle.registry_step.proofs.update_all.Given as goal

abbrev pub invariant-loop-i : goal.invariant-loop-i
invariant-loop-i l = Updating l.s l.epoch (least_exit l.s l.epoch) l.limit l.n l.initial.registry l.i l.registry l.queue

abbrev pub decreases-loop-i : goal.decreases-loop-i
decreases-loop-i l = l.n - l.i

use Prim.Native.Nat.{◌-◌}
use Rattle.registry.proofs.activation.Admitting.{Admitting}
use Rattle.registry.proofs.activation.admit_below.Given as goal

abbrev pub invariant-loop-i : goal.invariant-loop-i
invariant-loop-i l = Admitting l.epoch l.finalized_epoch l.bound l.quota l.stop l.n l.initial.registry l.i l.registry l.left

abbrev pub decreases-loop-i : goal.decreases-loop-i
decreases-loop-i l = l.stop - l.i

use Prim.Native.Nat.{◌-◌}
use Rattle.validator_exit.proofs.Seeing.{Seeing}
use Rattle.validator_exit.proofs.see_registry.Given as goal

abbrev pub invariant-loop-i : goal.invariant-loop-i
invariant-loop-i l = Seeing l.epoch l.n l.registry l.i l.active l.queue

abbrev pub decreases-loop-i : goal.decreases-loop-i
decreases-loop-i l = l.n - l.i

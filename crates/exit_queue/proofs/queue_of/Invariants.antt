use Prim.Native.Nat.{◌-◌}
use Rattle.exit_queue.proofs.QueueOf.{Tracking}
use Rattle.exit_queue.proofs.queue_of.Given as goal

abbrev pub invariant-loop-i : goal.invariant-loop-i
invariant-loop-i l = Tracking l.n l.registry l.i l.queue

abbrev pub decreases-loop-i : goal.decreases-loop-i
decreases-loop-i l = l.n - l.i

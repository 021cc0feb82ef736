use Prim.Native.Nat.{◌-◌}
use Rattle.laws.proofs.Loops.Copied.{Copied}
use Rattle.refusals.proofs.buffers.copy.Given as goal

abbrev pub invariant-loop-i : goal.invariant-loop-i
invariant-loop-i l = Copied l.from l.i l.to

abbrev pub decreases-loop-i : goal.decreases-loop-i
decreases-loop-i l = l.n - l.i

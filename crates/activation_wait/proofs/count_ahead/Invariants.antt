use Prim.Native.Nat.{◌-◌, ◌≤◌}
use Rattle.definitions.specs.Record.{decode}
use Rattle.activation_wait.proofs.Counting.{CountedBelow, is_ahead}
use Rattle.activation_wait.proofs.count_ahead.Given as goal

abbrev pub invariant-loop-j : goal.invariant-loop-j
invariant-loop-j l = CountedBelow (is_ahead l.finalized_epoch (decode l.registry) l.index) l.j l.count × (l.j ≤ l.n)

abbrev pub decreases-loop-j : goal.decreases-loop-j
decreases-loop-j l = l.n - l.j

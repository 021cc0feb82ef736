use Prim.Native.Nat.{◌-◌}
use Rattle.listing_lines.proofs.Fitting.{Fitting}
use Rattle.listing_lines.proofs.changes.Given as goal

abbrev pub invariant-loop-i : goal.invariant-loop-i
invariant-loop-i l = Fitting l.opening l.closing l.n l.i

abbrev pub decreases-loop-i : goal.decreases-loop-i
decreases-loop-i l = l.n - l.i

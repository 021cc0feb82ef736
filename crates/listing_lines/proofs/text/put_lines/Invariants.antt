use Prim.Native.Nat.{◌-◌}
use Rattle.listing_lines.proofs.Fitting.{Fitting}
use Rattle.listing_lines.proofs.Lines.{Lining}
use Rattle.listing_lines.proofs.text.put_lines.Given as goal

abbrev pub invariant-loop-i : goal.invariant-loop-i
invariant-loop-i l = Lining l.initial.text l.at l.opening l.closing l.n l.text l.end l.i × Fitting l.opening l.closing l.n l.i

abbrev pub decreases-loop-i : goal.decreases-loop-i
decreases-loop-i l = l.n - l.i

use Prim.Native.Nat.{◌-◌}
use Rattle.electra_amounts.proofs.Booking.{Booking}
use Rattle.electra_amounts.proofs.book.Given as goal

abbrev pub invariant-loop-i : goal.invariant-loop-i
invariant-loop-i l = Booking l.op l.column l.registry l.initial.amounts l.n l.i l.amounts

abbrev pub decreases-loop-i : goal.decreases-loop-i
decreases-loop-i l = l.n - l.i

use Prim.Native.Nat.{◌-◌, ◌≤◌}
use Rattle.definitions_file.specs.OutagePreparation.{with_flags_at}
use Rattle.registry.proofs.activation.Places.{Placed}
use Rattle.outage.proofs.outage_preparation.set_flags.Given as goal

abbrev pub invariant-loop-i : goal.invariant-loop-i
invariant-loop-i l = (l.i ≤ l.n) × Placed (with_flags_at l.epoch l.absences) l.n l.initial.registry l.i l.registry

abbrev pub decreases-loop-i : goal.decreases-loop-i
decreases-loop-i l = l.n - l.i

use Prim.Native.Nat.{◌-◌}
use Rattle.outage.proofs.outage_preparation.Roots.{Rooting}
use Rattle.outage.proofs.outage_preparation.put_roots.Given as goal

abbrev pub invariant-loop-i : goal.invariant-loop-i
invariant-loop-i l = Rooting l.places l.root l.initial.roots l.slot l.n l.i l.roots

abbrev pub decreases-loop-i : goal.decreases-loop-i
decreases-loop-i l = l.n - l.i

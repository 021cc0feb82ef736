use Prim.Native.Nat.{◌-◌}
use Rattle.electra_balances.proofs.Turns.{Updating}
use Rattle.electra_balances.proofs.update_all.Given as goal

abbrev pub invariant-loop-i : goal.invariant-loop-i
invariant-loop-i l = Updating l.rules l.compounding l.initial.registry l.i l.registry

abbrev pub decreases-loop-i : goal.decreases-loop-i
decreases-loop-i l = l.n - l.i

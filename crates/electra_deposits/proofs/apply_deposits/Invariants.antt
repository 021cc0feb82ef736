use mathlib.Core.Path.{◌≡◌}
use Prim.Native.Nat.{◌-◌, ◌/◌}
use lib.ListN.{length}
use Rattle.electra_deposits.proofs.Alone.{Going}
use Rattle.electra_deposits.proofs.apply_deposits.Given as goal

abbrev pub invariant-loop-i : goal.invariant-loop-i
invariant-loop-i l =
    (l.total ≡ length l.deposits / 5) × (length l.registry ≡ length l.initial.registry) × Going l.q l.initial.registry l.deposits l.i l.registry l.processed

abbrev pub decreases-loop-i : goal.decreases-loop-i
decreases-loop-i l = l.total - l.i

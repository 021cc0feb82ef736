use mathlib.Core.Path.{◌≡◌}
use mathlib.Core.Bool.{true}
use Prim.Native.Nat.{◌-◌, ◌/◌, ◌≤◌, ◌<◌}
use lib.ListN.{length}
use Rattle.electra_deposits.specs.Room.{keyed}
use Rattle.electra_deposits.proofs.Table.{Adding}
use Rattle.electra_deposits.proofs.adding.add_deposits.Given as goal

abbrev pub invariant-loop-i : goal.invariant-loop-i
invariant-loop-i l =
    (l.index ≤ length l.deposits / 5) × (keyed l.n l.deposits ≡ true) × (0 < l.k.increment) × (length l.registry ≡ length l.initial.registry) × (length l.compounding ≡ length l.initial.compounding) × (length l.places ≡ length l.initial.places) × Adding l.k l.n l.initial.registry l.initial.compounding l.deposits l.index l.i l.registry l.compounding l.places l.count

abbrev pub decreases-loop-i : goal.decreases-loop-i
decreases-loop-i l =
    l.index - l.i

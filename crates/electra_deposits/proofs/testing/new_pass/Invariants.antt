use mathlib.Core.Path.{◌≡◌}
use mathlib.Core.Bool.{true}
use Prim.Native.Nat.{◌-◌, ◌/◌, ◌≤◌, ◌<◌}
use lib.ListN.{length}
use Rattle.electra_deposits.specs.Room.{keyed}
use Rattle.electra_deposits.proofs.Tests.{Testing}
use Rattle.electra_deposits.proofs.testing.new_pass.Given as goal

abbrev pub invariant-loop-i : goal.invariant-loop-i
invariant-loop-i l =
    (l.index ≤ length l.deposits / 5) × (keyed l.n l.deposits ≡ true) × (0 < l.k.increment) × (length l.places ≡ length l.initial.places) × Testing l.k l.n l.downward l.upward l.deposits l.index l.i l.places l.added

abbrev pub decreases-loop-i : goal.decreases-loop-i
decreases-loop-i l = l.index - l.i

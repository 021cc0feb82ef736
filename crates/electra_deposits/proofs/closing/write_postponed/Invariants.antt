use mathlib.Core.Path.{◌≡◌}
use Prim.Native.Nat.{◌-◌, ◌/◌, ◌*◌, ◌≤◌}
use lib.ListN.{length}
use Rattle.electra_deposits.specs.Written.{Postponing}
use Rattle.electra_deposits.proofs.closing.write_postponed.Given as goal

abbrev pub invariant-loop-i : goal.invariant-loop-i
invariant-loop-i l =
    (length l.registry ≡ 10 * (length l.registry / 10)) × (l.index ≤ length l.deposits / 5) × (5 * l.index ≤ length l.queue) × (l.i ≤ l.index) × (length l.queue ≡ length l.initial.queue) × Postponing l.registry l.next_epoch l.deposits l.i l.initial.queue l.queue l.count

abbrev pub decreases-loop-i : goal.decreases-loop-i
decreases-loop-i l = l.index - l.i

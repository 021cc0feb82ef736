use Rattle.std.proofs.Common.{◌≡◌, ◌-◌, ◌/◌, true, length}
use Rattle.electra_consolidations.specs.Consolidations.{placed}
use Rattle.electra_consolidations.proofs.Consolidating.{Going}
use Rattle.electra_consolidations.proofs.Moves.{Booking}
use Rattle.electra_consolidations.proofs.consolidate_all.Given as goal

abbrev pub invariant-loop-i : goal.invariant-loop-i
invariant-loop-i l =
    (l.m ≡ length l.pairs / 2)
    × (placed l.n l.pairs ≡ true)
    × Going l.next_epoch l.n l.initial.registry l.pairs l.i l.registry
    × Booking l.next_epoch l.n l.initial.registry l.pairs l.initial.amounts l.i l.registry l.amounts

abbrev pub decreases-loop-i : goal.decreases-loop-i
decreases-loop-i l = l.m - l.i

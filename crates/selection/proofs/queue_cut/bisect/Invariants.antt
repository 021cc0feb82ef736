use Prim.Native.Nat.{◌-◌}
use Rattle.definitions.specs.Record.{decode}
use Rattle.laws.specs.Cut.{eligible_now}
use Rattle.selection.specs.Bracket.{Bracket}
use Rattle.selection.proofs.queue_cut.bisect.Given as goal

abbrev pub invariant-loop-low : goal.invariant-loop-low
invariant-loop-low l =
    Bracket l.limit l.finalized_epoch (eligible_now l.s l.epoch (decode l.registry)) l.low l.high l.before

abbrev pub decreases-loop-low : goal.decreases-loop-low
decreases-loop-low l = l.high - l.low

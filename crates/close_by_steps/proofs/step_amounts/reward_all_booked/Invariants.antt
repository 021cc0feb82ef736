use Prim.Native.Nat.{◌-◌}
use Rattle.definitions.specs.Rust.Altair.EpochProcessing.{reward_and_penalize}
use Rattle.rewards.specs.Shared.{totals_of}
use Rattle.close_by_steps.specs.Booked.{eight_of}
use Rattle.close_by_steps.proofs.step_amounts.Rewards.{Booking}
use Rattle.close_by_steps.proofs.step_amounts.reward_all_booked.Given as goal

abbrev pub invariant-loop-i : goal.invariant-loop-i
invariant-loop-i l =
    Booking (reward_and_penalize l.s l.quotient l.h.current_epoch l.h.previous_epoch (totals_of l.h l.source) (totals_of l.h l.target) (totals_of l.h l.head)) (eight_of l.s l.quotient l.h.current_epoch l.h.previous_epoch (totals_of l.h l.source) (totals_of l.h l.target) (totals_of l.h l.head)) l.n l.initial.registry l.i l.registry l.amounts

abbrev pub decreases-loop-i : goal.decreases-loop-i
decreases-loop-i l =
    l.n - l.i

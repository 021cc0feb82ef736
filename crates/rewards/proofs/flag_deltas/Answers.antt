use mathlib.Core.Bool.{not}
use mathlib.Core.Path.{ap}
use Rattle.rewards.proofs.Flags.{flag-none, flag-stop, flag_hit, flag_miss}
use Rattle.rewards.proofs.flag_deltas.Goals as goal

pub returns-then-not-entry_is_eligible : goal.returns-then-not-entry_is_eligible
returns-then-not-entry_is_eligible c = flag-none _ _ _ _ _ _ c.entry_is_eligible.ensures (ap not c.if-not-entry_is_eligible.true)

pub returns-in_err-reward : goal.returns-in_err-reward
returns-in_err-reward c = flag-stop _ _ _ _ _ _ c.entry_is_eligible.ensures (ap not c.if-not-entry_is_eligible.false) c.requires.says c.in_err-reward.was c.from_residual.ensures

pub returns-then-entry_is_participating : goal.returns-then-entry_is_participating
returns-then-entry_is_participating c = flag_hit _ _ _ _ _ _ c.entry_is_eligible.ensures (ap not c.if-not-entry_is_eligible.false) c.requires.says c.in_ok-reward.was c.flag_weight-weight.ensures c.entry_is_participating.ensures c.if-entry_is_participating.true c.hit_deltas.ensures

pub returns : goal.returns
returns c = flag_miss _ _ _ _ _ _ c.entry_is_eligible.ensures (ap not c.if-not-entry_is_eligible.false) c.requires.says c.in_ok-reward.was c.flag_weight-weight.ensures c.entry_is_participating.ensures c.if-entry_is_participating.false c.miss_deltas.ensures

use mathlib.Core.Path.{ap}
use Rattle.rewards.specs.declared.Shared.{Shared}
use Rattle.rewards_step.proofs.flag_rewards.entry_flag_deltas.Goals as goal

pub entry_base_reward-base-requires : goal.entry_base_reward-base-requires
entry_base_reward-base-requires c =
    let a = c.requires in
    let e = c.shared_numbers-shared.ensures in
    record { effective_balance_increment_nonzero = a.effective_balance_increment_nonzero; len = a.len; says = rw e.is at e.by.per_increment }

pub flag_deltas-requires : goal.flag_deltas-requires
flag_deltas-requires c =
    let a = c.requires in
    let e = c.shared_numbers-shared.ensures in
    record { shared_by = e.by; flag_index_bound = a.flag_index_bound; len = a.len; says = rw (ap (λ (h : Shared). h.total) e.is) c.entry_base_reward-base.ensures }

pub returns : goal.returns
returns c = rw c.shared_numbers-shared.ensures.is at c.flag_deltas.ensures

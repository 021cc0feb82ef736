-- What the step works out before its loop, and what is left of get_flag_index_deltas once a part of its numbers is.
use Rattle.std.specs.Prelude.{List, ℕ}
use Rattle.definitions.specs.declared.Deltas.{Deltas}
use Rattle.definitions.specs.declared.Settings.{Settings}
use Rattle.definitions.specs.Checked.{Checked, value, bind}
use Rattle.definitions.specs.Lists.{filter}
use Rattle.definitions.specs.Record.{Validator}
use Rattle.definitions.specs.Rust.Phase0.EpochProcessing.{is_in_inactivity_leak}
use Rattle.definitions.specs.Rust.Phase0.Helpers.{get_active_validator_indices, get_total_balance}
use Rattle.definitions.specs.Rust.Altair.Helpers.{is_unslashed_participating, flag_index_deltas}
use Rattle.rewards_step.specs.declared.StepTotals.{StepTotals}
use Rattle.rewards_step.specs.Totals.{flag_totals_of}

-- the numbers that all validators share
unfoldable pub step_totals : Settings → (state_slot finalized_epoch current previous : ℕ) → List Validator → Checked StepTotals
step_totals s state_slot finalized_epoch current previous vs =
    bind (get_total_balance s (filter (is_unslashed_participating current 0 previous) vs)) (λ source.
    bind (get_total_balance s (get_active_validator_indices vs current)) (λ total.
    bind (is_in_inactivity_leak s state_slot finalized_epoch) (λ leaking.
    bind (get_total_balance s (filter (is_unslashed_participating current 1 previous) vs)) (λ target.
    bind (get_total_balance s (filter (is_unslashed_participating current 2 previous) vs)) (λ head.
    value (record { source = source; target = target; head = head; total = total; leaking = leaking }))))))

-- of get_flag_index_deltas, once the participants' balance is known
abbrev pub flag_deltas_from : Settings → ℕ → ℕ → List Validator → (current previous flag_index participating : ℕ) → Validator → Checked Deltas
flag_deltas_from s state_slot finalized_epoch vs current previous flag_index participating v =
    bind (get_total_balance s (get_active_validator_indices vs current)) (λ total.
    bind (is_in_inactivity_leak s state_slot finalized_epoch) (λ leaking.
    flag_index_deltas s current previous flag_index (flag_totals_of s participating total leaking) v))

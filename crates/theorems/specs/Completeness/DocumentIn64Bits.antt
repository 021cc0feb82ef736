-- The document evaluated in 64 bits: phase0 and Altair beacon-chain.md with uint64 for the natural numbers of Document/*. An operation
-- that leaves 64 bits refuses where the text has it. The operations are those of Rust/*; in four places the text has one inside a loop
-- that the Rust has before it: is_in_inactivity_leak (inactivity, and rewards under a hit), the activation epoch (registry), the two
-- thresholds (effective balances). A plain `+` cannot leave 64 bits once the tests have passed: agreement, Bounds.antt.
use Rattle.std.specs.Prelude.{cond, List, [], ◌∷◌, ℕ, ◌/◌, eqb, length, get_or, take}
use Rattle.definitions.specs.declared.ActivationLimit.{ActivationLimit}
use Rattle.definitions.specs.declared.ActivationLimit.TheVariants.{Churn}
use Rattle.definitions.specs.declared.Settings.{Settings}
use Rattle.definitions.specs.declared.Deltas.{Deltas}
use Rattle.definitions.specs.Lists.{range}
use Rattle.definitions.specs.Record.{Validator, BeaconState, GENESIS_EPOCH}
use Rattle.definitions.specs.Updates.{with_score}
use Rattle.definitions.specs.Checked.{Checked, value, bind, mul64, map_checked, fold_checked}
use Rattle.definitions.specs.Document.Phase0.EpochProcessing as Document
use Rattle.definitions.specs.Document.Phase0.EpochProcessing.{activation_queue}
use Rattle.definitions.specs.Rust.Phase0.Helpers.{compute_activation_exit_epoch, get_current_epoch, get_previous_epoch, get_validator_churn_limit, get_total_balance, get_total_active_balance}
use Rattle.definitions.specs.Rust.Phase0.EpochProcessing as RustPhase0
use Rattle.definitions.specs.Rust.Phase0.EpochProcessing.{is_eligible, is_in_inactivity_leak, update_registry_at, activation_limit}
use Rattle.definitions.specs.Rust.Altair.Helpers.{TIMELY_SOURCE_FLAG_INDEX, TIMELY_TARGET_FLAG_INDEX, TIMELY_HEAD_FLAG_INDEX, PARTICIPATION_FLAG_WEIGHTS, no_deltas, is_unslashed_participating, get_unslashed_participating_indices, get_base_reward, hit_deltas, miss_deltas}
use Rattle.definitions.specs.Rust.Altair.EpochProcessing.{moved_score, recovered_score, apply_delta}
use Rattle.definitions.specs.Close as Rust
use Rattle.definitions.specs.Close.{on_validators, finalized_epoch_of, Step, justification_step, inactivity_step, rewards_step, registry_step, slashings_step, effective_balances_step, slashings_reset_step, participation_flags_step, steps}
use Rattle.theorems.specs.Completeness.ListByList.{zip_checked, get_inactivity_penalty_deltas}

-- Inactivity scores: the leak is asked for each eligible validator, after its score has moved

unfoldable pub update_inactivity_score : Settings → ℕ → ℕ → Validator → Checked Validator
update_inactivity_score s state_slot finalized_epoch v =
    let previous_epoch = get_previous_epoch s state_slot in
    let participating = is_unslashed_participating (get_current_epoch s state_slot) TIMELY_TARGET_FLAG_INDEX previous_epoch v in
    cond (is_eligible previous_epoch v)
    (bind (moved_score s participating v.inactivity_score) (λ score.
    bind (is_in_inactivity_leak s state_slot finalized_epoch) (λ leaking.
    value (with_score (recovered_score s leaking score) v))))
    (value v)

unfoldable pub process_inactivity_updates : Settings → ℕ → ℕ → List Validator → Checked (List Validator)
process_inactivity_updates s state_slot finalized_epoch vs =
    cond (eqb (get_current_epoch s state_slot) GENESIS_EPOCH) (value vs) (map_checked (update_inactivity_score s state_slot finalized_epoch) vs)

-- Rewards and penalties: the two totals of a flag before its loop, the leak in it, under a hit

pub record FlagTotals : Type 0 where
  pub participating : ℕ
  pub active : ℕ

unfoldable pub flag_totals : Settings → ℕ → List Validator → ℕ → Checked FlagTotals
flag_totals s state_slot vs flag_index =
    bind (get_total_balance s (get_unslashed_participating_indices s state_slot vs flag_index (get_previous_epoch s state_slot))) (λ participating.
    bind (get_total_active_balance s state_slot vs) (λ active.
    value (record { participating = participating; active = active })))

unfoldable pub flag_index_deltas : Settings → ℕ → ℕ → ℕ → FlagTotals → Validator → Checked Deltas
flag_index_deltas s state_slot finalized_epoch flag_index t v =
    let weight = get_or PARTICIPATION_FLAG_WEIGHTS flag_index 0 in
    let previous_epoch = get_previous_epoch s state_slot in
    let increments = t.participating / s.effective_balance_increment in
    cond (is_eligible previous_epoch v)
    (bind (get_base_reward s t.active v) (λ base_reward.
    cond (is_unslashed_participating (get_current_epoch s state_slot) flag_index previous_epoch v)
    (bind (is_in_inactivity_leak s state_slot finalized_epoch) (λ leaking.
    hit_deltas s weight (record { participating_increments = increments; total_active_balance = t.active; leaking = leaking }) base_reward))
    (miss_deltas flag_index weight base_reward)))
    (value no_deltas)

unfoldable pub get_flag_index_deltas : Settings → ℕ → ℕ → List Validator → ℕ → Checked (List Deltas)
get_flag_index_deltas s state_slot finalized_epoch vs flag_index =
    bind (flag_totals s state_slot vs flag_index) (λ t. map_checked (flag_index_deltas s state_slot finalized_epoch flag_index t) vs)

-- of one validator, without the others: the leaf
unfoldable pub deltas_of_one : Settings → ℕ → ℕ → List Validator → ℕ → Validator → Checked Deltas
deltas_of_one s state_slot finalized_epoch vs flag_index v =
    bind (flag_totals s state_slot vs flag_index) (λ t. flag_index_deltas s state_slot finalized_epoch flag_index t v)

-- four lists of deltas, then list by list
unfoldable pub process_rewards_and_penalties : Settings → ℕ → ℕ → ℕ → List Validator → Checked (List Validator)
process_rewards_and_penalties s quotient state_slot finalized_epoch vs =
    let flag_deltas = get_flag_index_deltas s state_slot finalized_epoch vs in
    cond (eqb (get_current_epoch s state_slot) GENESIS_EPOCH) (value vs)
    (bind (flag_deltas TIMELY_SOURCE_FLAG_INDEX) (λ source.
    bind (flag_deltas TIMELY_TARGET_FLAG_INDEX) (λ target.
    bind (flag_deltas TIMELY_HEAD_FLAG_INDEX) (λ head.
    bind (get_inactivity_penalty_deltas s quotient state_slot vs) (λ inactivity.
    fold_checked (zip_checked apply_delta) vs (source ∷ target ∷ head ∷ inactivity ∷ []))))))

-- Registry updates: the activation epoch is worked out for each validator that is dequeued

unfoldable pub activate_at : Settings → ℕ → List Validator → ℕ → Checked (List Validator)
activate_at s state_slot vs index =
    bind (compute_activation_exit_epoch s (get_current_epoch s state_slot)) (λ epoch. value (Document.activate_at epoch vs index))

-- the queue is cut at the churn limit, or at Deneb's get_validator_activation_churn_limit
unfoldable pub limited_registry_updates : ActivationLimit → Settings → ℕ → ℕ → List Validator → Checked (List Validator)
limited_registry_updates l s state_slot finalized_epoch vs =
    bind (fold_checked (update_registry_at s state_slot) vs (range 0 (length vs))) (λ queued.
    let limit = activation_limit l (get_validator_churn_limit s state_slot queued) in
    fold_checked (activate_at s state_slot) queued (take limit (activation_queue finalized_epoch queued)))

-- Effective balances updates: both thresholds are worked out for each validator

unfoldable pub update_effective_balance : Settings → Validator → Checked Validator
update_effective_balance s v =
    let increment = s.effective_balance_increment / s.hysteresis_quotient in
    bind (mul64 increment s.hysteresis_downward_multiplier) (λ downward.
    bind (mul64 increment s.hysteresis_upward_multiplier) (λ upward.
    RustPhase0.update_effective_balance s downward upward v))

unfoldable pub process_effective_balance_updates : Settings → List Validator → Checked (List Validator)
process_effective_balance_updates s vs = map_checked (update_effective_balance s) vs

-- Epoch processing. In the other four steps every operation stands where the Rust has it.

unfoldable pub limited_step : ActivationLimit → Settings → BeaconState → Step → Checked BeaconState
limited_step l s st justification_step = Rust.limited_step l s st justification_step
limited_step l s st inactivity_step = on_validators st (process_inactivity_updates s st.finality.slot (finalized_epoch_of st) st.validators)
limited_step l s st rewards_step =
    let quotient = s.inactivity_penalty_quotient_altair in
    on_validators st (process_rewards_and_penalties s quotient st.finality.slot (finalized_epoch_of st) st.validators)
limited_step l s st registry_step = on_validators st (limited_registry_updates l s st.finality.slot (finalized_epoch_of st) st.validators)
limited_step l s st slashings_step = Rust.limited_step l s st slashings_step
limited_step l s st effective_balances_step = on_validators st (process_effective_balance_updates s st.validators)
limited_step l s st slashings_reset_step = Rust.limited_step l s st slashings_reset_step
limited_step l s st participation_flags_step = Rust.limited_step l s st participation_flags_step

unfoldable pub limited_epoch : ActivationLimit → Settings → BeaconState → Checked BeaconState
limited_epoch l s st = fold_checked (limited_step l s) st steps

-- before Deneb
abbrev pub step : Settings → BeaconState → Step → Checked BeaconState
step s st k = limited_step Churn s st k

abbrev pub process_epoch : Settings → BeaconState → Checked BeaconState
process_epoch s st = limited_epoch Churn s st

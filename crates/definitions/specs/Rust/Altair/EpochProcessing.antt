-- ethereum-consensus/src/altair/epoch_processing.rs
use Rattle.std.specs.Prelude.{Bool, false, cond, List, [], ◌∷◌, map, ℕ, ◌+◌, ◌-◌, ◌/◌, min, leb, eqb}
use Rattle.definitions.specs.declared.Settings.{Settings}
use Rattle.definitions.specs.declared.Deltas.{Deltas}
use Rattle.definitions.specs.declared.Finality.{Finality}
use Rattle.definitions.specs.Record.{Validator, GENESIS_EPOCH, is_slashed}
use Rattle.definitions.specs.Updates.{with_score}
use Rattle.definitions.specs.Checked.{Checked, value, bind, add64, mul64, sum64, map_checked, fold_checked}
use Rattle.definitions.specs.Rust.Phase0.Helpers.{get_current_epoch, get_previous_epoch, get_total_balance, get_total_active_balance, increase_balance, decrease_balance}
use Rattle.definitions.specs.Rust.Phase0.EpochProcessing.{weigh_justification_and_finalization, is_in_inactivity_leak, is_eligible}
use Rattle.definitions.specs.Rust.Altair.Helpers.{TIMELY_SOURCE_FLAG_INDEX, TIMELY_TARGET_FLAG_INDEX, TIMELY_HEAD_FLAG_INDEX, is_unslashed_participating, get_unslashed_participating_indices, FlagTotals, flag_totals, flag_index_deltas, inactivity_penalty_deltas}
use Rattle.definitions.specs.Document.Altair.EpochProcessing.{rotate_participation}

-- 50: total, previous target, current target, then the weighing
unfoldable pub process_justification_and_finalization : Settings → List ℕ → Finality → List Validator → Checked Finality
process_justification_and_finalization s roots old vs =
    let current_epoch = get_current_epoch s old.slot in
    let target = get_unslashed_participating_indices s old.slot vs TIMELY_TARGET_FLAG_INDEX in
    cond (leb current_epoch (GENESIS_EPOCH + 1)) (value old)
    (bind (get_total_active_balance s old.slot vs) (λ total_active_balance.
    bind (get_total_balance s (target (get_previous_epoch s old.slot))) (λ previous_target_balance.
    bind (get_total_balance s (target current_epoch)) (λ current_target_balance.
    weigh_justification_and_finalization s roots old total_active_balance previous_target_balance current_target_balance))))

-- 104, the first half: one less for a target hit, the bias more for a miss
unfoldable pub moved_score : Settings → Bool → ℕ → Checked ℕ
moved_score s participating score = cond participating (value (score - min 1 score)) (add64 score s.inactivity_score_bias)

-- the second half: outside a leak the recovery rate comes off
unfoldable pub recovered_score : Settings → Bool → ℕ → ℕ
recovered_score s leaking score = cond leaking score (score - min s.inactivity_score_recovery_rate score)

unfoldable pub update_inactivity_score : Settings → ℕ → ℕ → Bool → Validator → Checked Validator
update_inactivity_score s current_epoch previous_epoch leaking v =
    let participating = is_unslashed_participating current_epoch TIMELY_TARGET_FLAG_INDEX previous_epoch v in
    cond (is_eligible previous_epoch v)
    (bind (moved_score s participating v.inactivity_score) (λ score. value (with_score (recovered_score s leaking score) v)))
    (value v)

-- 104: the finality delay is evaluated before the loop
unfoldable pub process_inactivity_updates : Settings → ℕ → ℕ → List Validator → Checked (List Validator)
process_inactivity_updates s state_slot finalized_epoch vs =
    let current_epoch = get_current_epoch s state_slot in
    cond (eqb current_epoch GENESIS_EPOCH) (value vs)
    (bind (is_in_inactivity_leak s state_slot finalized_epoch) (λ leaking.
    map_checked (update_inactivity_score s current_epoch (get_previous_epoch s state_slot) leaking) vs))

-- 157, a validator: a reward, then its penalty
unfoldable pub apply_delta : Validator → Deltas → Checked Validator
apply_delta v d = bind (increase_balance v d.reward) (λ w. value (decrease_balance w d.penalty))

-- 157, a validator: its four pairs, in order
unfoldable pub all_deltas : Settings → ℕ → ℕ → ℕ → FlagTotals → FlagTotals → FlagTotals → Validator → Checked (List Deltas)
all_deltas s quotient current_epoch previous_epoch source target head v =
    let deltas = flag_index_deltas s current_epoch previous_epoch in
    bind (deltas TIMELY_SOURCE_FLAG_INDEX source v) (λ a.
    bind (deltas TIMELY_TARGET_FLAG_INDEX target v) (λ b.
    bind (deltas TIMELY_HEAD_FLAG_INDEX head v) (λ c.
    bind (inactivity_penalty_deltas s quotient current_epoch previous_epoch v) (λ d.
    value (a ∷ b ∷ c ∷ d ∷ [])))))

-- 157, a validator: all deltas are worked out before the first is applied
unfoldable pub reward_and_penalize : Settings → ℕ → ℕ → ℕ → FlagTotals → FlagTotals → FlagTotals → Validator → Checked Validator
reward_and_penalize s quotient current_epoch previous_epoch source target head v =
    bind (all_deltas s quotient current_epoch previous_epoch source target head v) (fold_checked apply_delta v)

-- 157: here validator by validator. The Rust's order, list by list, gives the same: theorems, Completeness/ListByList.antt.
unfoldable pub process_rewards_and_penalties : Settings → ℕ → ℕ → ℕ → List Validator → Checked (List Validator)
process_rewards_and_penalties s quotient state_slot finalized_epoch vs =
    let totals = flag_totals s state_slot finalized_epoch vs in
    let current_epoch = get_current_epoch s state_slot in
    cond (eqb current_epoch GENESIS_EPOCH) (value vs)
    (bind (totals TIMELY_SOURCE_FLAG_INDEX) (λ source.
    bind (totals TIMELY_TARGET_FLAG_INDEX) (λ target.
    bind (totals TIMELY_HEAD_FLAG_INDEX) (λ head.
    map_checked (reward_and_penalize s quotient current_epoch (get_previous_epoch s state_slot) source target head) vs))))

-- 230, a validator: the epoch is compared only where it is slashed
unfoldable pub is_slashing_due : Settings → ℕ → Validator → Checked Bool
is_slashing_due s epoch v =
    cond (is_slashed v)
    (bind (add64 epoch (s.epochs_per_slashings_vector / 2)) (λ due. value (eqb due v.withdrawable_epoch)))
    (value false)

unfoldable pub slashing_penalty : Settings → ℕ → ℕ → Validator → Checked ℕ
slashing_penalty s total_balance adjusted_total_slashing_balance v =
    let increment = s.effective_balance_increment in
    bind (mul64 (v.effective_balance / increment) adjusted_total_slashing_balance) (λ penalty_numerator.
    mul64 (penalty_numerator / total_balance) increment)

unfoldable pub slash : Settings → ℕ → ℕ → ℕ → Validator → Checked Validator
slash s epoch total_balance adjusted_total_slashing_balance v =
    bind (is_slashing_due s epoch v) (λ due.
    cond due (bind (slashing_penalty s total_balance adjusted_total_slashing_balance v) (λ penalty. value (decrease_balance v penalty))) (value v))

-- 230: total, sum and product are evaluated also where nobody is due
unfoldable pub process_slashings : Settings → ℕ → ℕ → List ℕ → List Validator → Checked (List Validator)
process_slashings s multiplier state_slot slashings vs =
    bind (get_total_active_balance s state_slot vs) (λ total_balance.
    bind (sum64 slashings) (λ slashed.
    bind (mul64 slashed multiplier) (λ product.
    map_checked (slash s (get_current_epoch s state_slot) total_balance (min product total_balance)) vs)))

-- 201: cannot fail
unfoldable pub process_participation_flag_updates : List Validator → List Validator
process_participation_flag_updates vs = map rotate_participation vs

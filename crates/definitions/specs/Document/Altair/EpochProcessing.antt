-- altair/beacon-chain.md, section Epoch processing.
use Rattle.std.specs.Prelude.{cond, ◌&&◌, ℕ, ◌+◌, ◌-◌, ◌*◌, ◌/◌, min, leb, eqb}
use mathlib.Core.List.{List, [], ◌∷◌, map, foldl, zip_with}
use Rattle.definitions.specs.declared.Settings.{Settings}
use Rattle.definitions.specs.declared.Deltas.{Deltas}
use Rattle.definitions.specs.Lists.{sum}
use Rattle.definitions.specs.Record.{Validator, BeaconState, GENESIS_EPOCH, is_slashed}
use Rattle.definitions.specs.Updates.{with_score, with_participation, with_validators, with_finality}
use Rattle.definitions.specs.Document.Phase0.Helpers.{get_current_epoch, get_previous_epoch, get_total_balance, get_total_active_balance, increase_balance, decrease_balance}
use Rattle.definitions.specs.Document.Phase0.EpochProcessing.{weigh_justification_and_finalization, is_in_inactivity_leak, is_eligible, process_registry_updates, process_effective_balance_updates, process_slashings_reset}
use Rattle.definitions.specs.Document.Altair.Helpers.{TIMELY_SOURCE_FLAG_INDEX, TIMELY_TARGET_FLAG_INDEX, TIMELY_HEAD_FLAG_INDEX, is_unslashed_participating, get_unslashed_participating_indices, get_flag_index_deltas, get_inactivity_penalty_deltas}

-- Justification and finalization

-- altair, Justification and finalization; the balances are asked by flags, phase0's weighing goes on
unfoldable pub process_justification_and_finalization : Settings → BeaconState → BeaconState
process_justification_and_finalization s st =
    let state_slot = st.finality.slot in
    let current_epoch = get_current_epoch s state_slot in
    let target = get_unslashed_participating_indices s state_slot st.validators TIMELY_TARGET_FLAG_INDEX in
    let total_active_balance = get_total_active_balance s state_slot st.validators in
    let previous_target_balance = get_total_balance s (target (get_previous_epoch s state_slot)) in
    let current_target_balance = get_total_balance s (target current_epoch) in
    let weigh = weigh_justification_and_finalization s st.block_roots st.finality in
    cond (leb current_epoch (GENESIS_EPOCH + 1)) st
    (with_finality (weigh total_active_balance previous_target_balance current_target_balance) st)

-- Inactivity scores

-- altair, Inactivity scores, process_inactivity_updates: one validator's turn
unfoldable pub update_inactivity_score : Settings → ℕ → ℕ → Validator → Validator
update_inactivity_score s state_slot finalized_epoch v =
    let score = v.inactivity_score in
    let previous_epoch = get_previous_epoch s state_slot in
    let participating = is_unslashed_participating (get_current_epoch s state_slot) TIMELY_TARGET_FLAG_INDEX previous_epoch v in
    let moved = cond participating (score - min 1 score) (score + s.inactivity_score_bias) in
    let recovered = cond (is_in_inactivity_leak s state_slot finalized_epoch) moved (moved - min s.inactivity_score_recovery_rate moved) in
    cond (is_eligible previous_epoch v) (with_score recovered v) v

unfoldable pub process_inactivity_updates : Settings → BeaconState → BeaconState
process_inactivity_updates s st =
    let state_slot = st.finality.slot in
    cond (eqb (get_current_epoch s state_slot) GENESIS_EPOCH) st
    (with_validators (map (update_inactivity_score s state_slot st.finality.finalized_checkpoint.epoch) st.validators) st)

-- Rewards and penalties

-- altair, process_rewards_and_penalties: increase_balance(state, index, rewards[index]), then decrease_balance
-- a reward, then its penalty
unfoldable pub apply_delta : Validator → Deltas → Validator
apply_delta v d = decrease_balance (increase_balance v d.reward) d.penalty

-- altair, process_rewards_and_penalties: the inner loop, for (rewards, penalties) of one list
-- one pair of the list `deltas`, for every validator
unfoldable pub apply_deltas : List Validator → List Deltas → List Validator
apply_deltas vs ds = zip_with apply_delta vs ds

-- altair, process_rewards_and_penalties: flag_deltas and the inactivity deltas, one behind the other
-- by the inactivity deltas, which are all that a later fork changes of it
abbrev pub rewarded_by : Settings → List Deltas → BeaconState → BeaconState
rewarded_by s inactivity st =
    let state_slot = st.finality.slot in
    let flag_deltas = get_flag_index_deltas s state_slot st.finality.finalized_checkpoint.epoch st.validators in
    let deltas = flag_deltas TIMELY_SOURCE_FLAG_INDEX ∷ flag_deltas TIMELY_TARGET_FLAG_INDEX ∷ flag_deltas TIMELY_HEAD_FLAG_INDEX ∷ inactivity ∷ [] in
    cond (eqb (get_current_epoch s state_slot) GENESIS_EPOCH) st (with_validators (foldl apply_deltas st.validators deltas) st)

unfoldable pub process_rewards_and_penalties : Settings → ℕ → BeaconState → BeaconState
process_rewards_and_penalties s quotient st = rewarded_by s (get_inactivity_penalty_deltas s quotient st.finality.slot st.validators) st

-- Slashings

-- altair, Slashings, modified process_slashings: one validator's turn
unfoldable pub slash : Settings → ℕ → ℕ → ℕ → Validator → Validator
slash s epoch total_balance adjusted_total_slashing_balance v =
    let increment = s.effective_balance_increment in
    let penalty_numerator = v.effective_balance / increment * adjusted_total_slashing_balance in
    let penalty = penalty_numerator / total_balance * increment in
    cond (is_slashed v && eqb (epoch + s.epochs_per_slashings_vector / 2) v.withdrawable_epoch) (decrease_balance v penalty) v

-- `multiplier` is proportional_slashing_multiplier_altair
unfoldable pub process_slashings : Settings → ℕ → BeaconState → BeaconState
process_slashings s multiplier st =
    let state_slot = st.finality.slot in
    let total_balance = get_total_active_balance s state_slot st.validators in
    let adjusted = min (sum st.slashings * multiplier) total_balance in
    with_validators (map (slash s (get_current_epoch s state_slot) total_balance adjusted) st.validators) st

-- Participation flags updates

-- altair, Participation flags updates, process_participation_flag_updates: one validator's two fields
unfoldable pub rotate_participation : Validator → Validator
rotate_participation v = with_participation v.current_epoch_participation 0 v

unfoldable pub process_participation_flag_updates : BeaconState → BeaconState
process_participation_flag_updates st = with_validators (map rotate_participation st.validators) st

-- Epoch processing: the eight steps in the document's order

unfoldable pub process_epoch : Settings → BeaconState → BeaconState
process_epoch s st =
    let justified = process_justification_and_finalization s st in
    let scored = process_inactivity_updates s justified in
    let rewarded = process_rewards_and_penalties s s.inactivity_penalty_quotient_altair scored in
    let registered = process_registry_updates s rewarded in
    let slashed = process_slashings s s.proportional_slashing_multiplier_altair registered in
    let balanced = process_effective_balance_updates s slashed in
    let reset = process_slashings_reset s balanced in
    process_participation_flag_updates reset

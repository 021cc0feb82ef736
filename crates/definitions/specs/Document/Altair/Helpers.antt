-- altair/beacon-chain.md, sections Constants and Helper functions.
use Rattle.std.specs.Prelude.{Bool, cond, ◌&&◌, not, List, [], ◌∷◌, map, ℕ, ◌*◌, ◌/◌, eqb, get_or}
use Rattle.definitions.specs.declared.Settings.{Settings}
use Rattle.definitions.specs.declared.Deltas.{Deltas}
use Rattle.definitions.specs.Lists.{filter}
use Rattle.definitions.specs.Record.{Validator, is_slashed}
use Rattle.definitions.specs.Document.Phase0.Helpers.{integer_squareroot, is_active_validator, get_current_epoch, get_previous_epoch, get_total_balance, get_total_active_balance}
use Rattle.definitions.specs.Document.Phase0.EpochProcessing.{bit, with_bit, is_in_inactivity_leak, is_eligible}

-- Participation flag indices and incentivization weights

abbrev pub TIMELY_SOURCE_FLAG_INDEX : ℕ
TIMELY_SOURCE_FLAG_INDEX = 0

abbrev pub TIMELY_TARGET_FLAG_INDEX : ℕ
TIMELY_TARGET_FLAG_INDEX = 1

abbrev pub TIMELY_HEAD_FLAG_INDEX : ℕ
TIMELY_HEAD_FLAG_INDEX = 2

-- source 14, target 26, head 14
abbrev pub PARTICIPATION_FLAG_WEIGHTS : List ℕ
PARTICIPATION_FLAG_WEIGHTS = 14 ∷ 26 ∷ 14 ∷ []

abbrev pub WEIGHT_DENOMINATOR : ℕ
WEIGHT_DENOMINATOR = 64

-- Misc

unfoldable pub add_flag : ℕ → ℕ → ℕ
add_flag flags flag_index = with_bit flag_index flags

unfoldable pub has_flag : ℕ → ℕ → Bool
has_flag flags flag_index = bit flag_index flags

-- Beacon state accessors

unfoldable pub get_base_reward_per_increment : Settings → ℕ → ℕ
get_base_reward_per_increment s total_active_balance =
    s.effective_balance_increment * s.base_reward_factor / integer_squareroot total_active_balance

unfoldable pub get_base_reward : Settings → ℕ → Validator → ℕ
get_base_reward s total_active_balance v =
    v.effective_balance / s.effective_balance_increment * get_base_reward_per_increment s total_active_balance

-- the test of get_unslashed_participating_indices; where the epoch is both previous and current, the current flags count.
-- Left out: the assertion that it is one of the two. The steps ask for no other, and a leaf asked for another answers 1.
unfoldable pub is_unslashed_participating : ℕ → ℕ → ℕ → Validator → Bool
is_unslashed_participating current_epoch flag_index epoch v =
    let flags = cond (eqb epoch current_epoch) v.current_epoch_participation v.previous_epoch_participation in
    is_active_validator v epoch && has_flag flags flag_index && not (is_slashed v)

unfoldable pub get_unslashed_participating_indices : Settings → ℕ → List Validator → ℕ → ℕ → List Validator
get_unslashed_participating_indices s state_slot vs flag_index epoch =
    filter (is_unslashed_participating (get_current_epoch s state_slot) flag_index epoch) vs

-- altair, get_flag_index_deltas and get_inactivity_penalty_deltas: the zeros that both lists begin with
abbrev pub no_deltas : Deltas
no_deltas = record { reward = 0; penalty = 0 }

-- altair, get_flag_index_deltas: one validator's turn
-- rewards[index] and penalties[index] of a flag
unfoldable pub flag_index_deltas : Settings → ℕ → ℕ → List Validator → ℕ → Validator → Deltas
flag_index_deltas s state_slot finalized_epoch vs flag_index v =
    let weight = get_or PARTICIPATION_FLAG_WEIGHTS flag_index 0 in
    let previous_epoch = get_previous_epoch s state_slot in
    let indices = get_unslashed_participating_indices s state_slot vs flag_index previous_epoch in
    let participating = get_total_balance s indices / s.effective_balance_increment in
    let active = get_total_active_balance s state_slot vs / s.effective_balance_increment in
    let base_reward = get_base_reward s (get_total_active_balance s state_slot vs) v in
    let reward = base_reward * weight * participating / (active * WEIGHT_DENOMINATOR) in
    let penalty = base_reward * weight / WEIGHT_DENOMINATOR in
    cond (is_eligible previous_epoch v)
    (cond (is_unslashed_participating (get_current_epoch s state_slot) flag_index previous_epoch v)
    (cond (is_in_inactivity_leak s state_slot finalized_epoch) no_deltas (record { reward = reward; penalty = 0 }))
    (cond (eqb flag_index TIMELY_HEAD_FLAG_INDEX) no_deltas (record { reward = 0; penalty = penalty })))
    no_deltas

unfoldable pub get_flag_index_deltas : Settings → ℕ → ℕ → List Validator → ℕ → List Deltas
get_flag_index_deltas s state_slot finalized_epoch vs flag_index = map (flag_index_deltas s state_slot finalized_epoch vs flag_index) vs

-- altair, modified get_inactivity_penalty_deltas: one validator's turn; `quotient` is inactivity_penalty_quotient_altair
-- the inactivity penalty of a validator; `quotient` is inactivity_penalty_quotient_altair
unfoldable pub inactivity_penalty_deltas : Settings → ℕ → ℕ → Validator → Deltas
inactivity_penalty_deltas s quotient state_slot v =
    let penalty = v.effective_balance * v.inactivity_score / (s.inactivity_score_bias * quotient) in
    let previous_epoch = get_previous_epoch s state_slot in
    let matching = is_unslashed_participating (get_current_epoch s state_slot) TIMELY_TARGET_FLAG_INDEX previous_epoch v in
    cond (is_eligible previous_epoch v && not matching) (record { reward = 0; penalty = penalty }) no_deltas

unfoldable pub get_inactivity_penalty_deltas : Settings → ℕ → ℕ → List Validator → List Deltas
get_inactivity_penalty_deltas s quotient state_slot vs = map (inactivity_penalty_deltas s quotient state_slot) vs

-- ethereum-consensus/src/altair/helpers.rs, and get_base_reward of altair/epoch_processing.rs
use Rattle.std.specs.Prelude.{Bool, cond, ◌&&◌, not, List, ℕ, ◌/◌, eqb, get_or}
use Rattle.definitions.specs.declared.Settings.{Settings}
use Rattle.definitions.specs.declared.Deltas.{Deltas}
use Rattle.definitions.specs.Record.{Validator}
use Rattle.definitions.specs.Checked.{Checked, value, bind, mul64}
use Rattle.definitions.specs.Document.Phase0.Helpers.{integer_squareroot}
use Rattle.definitions.specs.Rust.Phase0.Helpers.{get_current_epoch, get_previous_epoch, get_total_balance, get_total_active_balance}
use Rattle.definitions.specs.Rust.Phase0.EpochProcessing.{is_in_inactivity_leak, is_eligible}
-- constants.rs; 27, 33, 153: the document's
pub use Rattle.definitions.specs.Document.Altair.Helpers.{TIMELY_SOURCE_FLAG_INDEX, TIMELY_TARGET_FLAG_INDEX, TIMELY_HEAD_FLAG_INDEX, PARTICIPATION_FLAG_WEIGHTS, WEIGHT_DENOMINATOR, no_deltas}
unfoldable pub use Rattle.definitions.specs.Document.Altair.Helpers.{add_flag, has_flag, is_unslashed_participating, get_unslashed_participating_indices}

-- 125: the product, then the square root of the total
unfoldable pub get_base_reward_per_increment : Settings → ℕ → Checked ℕ
get_base_reward_per_increment s total_active_balance =
    bind (mul64 s.effective_balance_increment s.base_reward_factor) (λ product.
    value (product / integer_squareroot total_active_balance))

-- epoch_processing.rs 22
unfoldable pub get_base_reward : Settings → ℕ → Validator → Checked ℕ
get_base_reward s total_active_balance v =
    bind (get_base_reward_per_increment s total_active_balance) (mul64 (v.effective_balance / s.effective_balance_increment))

-- 265, what is worked out before the loop, and shared by all validators
pub record FlagTotals : Type 0 where
  pub participating_increments : ℕ
  pub total_active_balance : ℕ
  pub leaking : Bool

unfoldable pub flag_totals : Settings → ℕ → ℕ → List Validator → ℕ → Checked FlagTotals
flag_totals s state_slot finalized_epoch vs flag_index =
    let indices = get_unslashed_participating_indices s state_slot vs flag_index (get_previous_epoch s state_slot) in
    bind (get_total_balance s indices) (λ participating.
    bind (get_total_active_balance s state_slot vs) (λ active.
    bind (is_in_inactivity_leak s state_slot finalized_epoch) (λ leaking.
    value (record { participating_increments = participating / s.effective_balance_increment; total_active_balance = active; leaking = leaking }))))

-- 265, a hit: nothing is evaluated in a leak
unfoldable pub hit_deltas : Settings → ℕ → FlagTotals → ℕ → Checked Deltas
hit_deltas s weight t base_reward =
    cond t.leaking (value no_deltas)
    (bind (mul64 base_reward weight) (λ weighted.
    bind (mul64 weighted t.participating_increments) (λ numerator.
    bind (mul64 (t.total_active_balance / s.effective_balance_increment) WEIGHT_DENOMINATOR) (λ denominator.
    value (record { reward = numerator / denominator; penalty = 0 })))))

-- 265, a miss: nothing is evaluated for the head
unfoldable pub miss_deltas : ℕ → ℕ → ℕ → Checked Deltas
miss_deltas flag_index weight base_reward =
    cond (eqb flag_index TIMELY_HEAD_FLAG_INDEX) (value no_deltas)
    (bind (mul64 base_reward weight) (λ weighted. value (record { reward = 0; penalty = weighted / WEIGHT_DENOMINATOR })))

-- 265, the loop's turn: only eligible validators have a base reward
unfoldable pub flag_index_deltas : Settings → ℕ → ℕ → ℕ → FlagTotals → Validator → Checked Deltas
flag_index_deltas s current_epoch previous_epoch flag_index t v =
    let weight = get_or PARTICIPATION_FLAG_WEIGHTS flag_index 0 in
    let participates = is_unslashed_participating current_epoch flag_index previous_epoch v in
    cond (is_eligible previous_epoch v)
    (bind (get_base_reward s t.total_active_balance v) (λ base_reward.
    cond participates (hit_deltas s weight t base_reward) (miss_deltas flag_index weight base_reward)))
    (value no_deltas)

-- 265, of one validator
unfoldable pub get_flag_index_deltas : Settings → ℕ → ℕ → List Validator → ℕ → Validator → Checked Deltas
get_flag_index_deltas s state_slot finalized_epoch vs flag_index v =
    bind (flag_totals s state_slot finalized_epoch vs flag_index) (λ t.
    flag_index_deltas s (get_current_epoch s state_slot) (get_previous_epoch s state_slot) flag_index t v)

-- 316, the loop's turn: both products only where an eligible validator missed the target
unfoldable pub inactivity_penalty_deltas : Settings → ℕ → ℕ → ℕ → Validator → Checked Deltas
inactivity_penalty_deltas s quotient current_epoch previous_epoch v =
    let matching = is_unslashed_participating current_epoch TIMELY_TARGET_FLAG_INDEX previous_epoch v in
    cond (is_eligible previous_epoch v && not matching)
    (bind (mul64 v.effective_balance v.inactivity_score) (λ numerator.
    bind (mul64 s.inactivity_score_bias quotient) (λ denominator.
    value (record { reward = 0; penalty = numerator / denominator }))))
    (value no_deltas)

-- 316, of one validator
unfoldable pub get_inactivity_penalty_deltas : Settings → ℕ → ℕ → Validator → Checked Deltas
get_inactivity_penalty_deltas s quotient state_slot v =
    inactivity_penalty_deltas s quotient (get_current_epoch s state_slot) (get_previous_epoch s state_slot) v

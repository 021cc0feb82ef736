-- Agreement of the deltas of one validator.
use mathlib.Core.Bool.{◌&&◌, not}
use mathlib.Core.List.{List}
use Prim.Native.Nat.{ℕ, ◌/◌}
use lib.Dec.{eqb}
use Rattle.definitions.specs.declared.Settings.{Settings}
use Rattle.definitions.specs.Record.{Validator}
use Rattle.definitions.specs.Document.Phase0.Helpers.{get_current_epoch, get_previous_epoch, get_total_balance, get_total_active_balance}
use Rattle.definitions.specs.Document.Phase0.EpochProcessing.{is_eligible, is_in_inactivity_leak}
use Rattle.definitions.specs.Document.Altair.Helpers as document
use Rattle.definitions.specs.Document.Altair.Helpers.{is_unslashed_participating, get_unslashed_participating_indices}
use Rattle.definitions.specs.Rust.Altair.Helpers as rust
use Rattle.definitions.specs.Rust.Altair.Helpers.{FlagTotals}
use Rattle.agreement.proofs.Agrees.{Agrees, IsOverflow, value-agrees, bind-agrees, cond-agrees, mul64-agrees}
use Rattle.agreement.proofs.Helpers.{total-balance, total_active_balance, leak}

pub base_reward : (s : Settings) (total : ℕ) (v : Validator) → Agrees IsOverflow (rust.get_base_reward s total v) (document.get_base_reward s total v)
unfolding rust.get_base_reward rust.get_base_reward_per_increment document.get_base_reward document.get_base_reward_per_increment
base_reward s total v = bind-agrees _ (bind-agrees _ (mul64-agrees _ _) value-agrees) (mul64-agrees _ _)

-- the document's totals of a flag
abbrev pub totals_of : Settings → ℕ → ℕ → List Validator → ℕ → FlagTotals
totals_of s state_slot finalized_epoch vs flag_index =
    record {
      participating_increments = get_total_balance s (get_unslashed_participating_indices s state_slot vs flag_index (get_previous_epoch s state_slot)) / s.effective_balance_increment;
      total_active_balance = get_total_active_balance s state_slot vs;
      leaking = is_in_inactivity_leak s state_slot finalized_epoch;
    }

pub flag-totals : (s : Settings) (state_slot finalized_epoch : ℕ) (vs : List Validator) (flag_index : ℕ) → Agrees IsOverflow (rust.flag_totals s state_slot finalized_epoch vs flag_index) (totals_of s state_slot finalized_epoch vs flag_index)
unfolding rust.flag_totals
flag-totals s state_slot finalized_epoch vs flag_index =
    bind-agrees _ (total-balance s _) (bind-agrees _ (total_active_balance s _ _) (bind-agrees _ (leak s _ _) value-agrees))

pub flag-deltas : (s : Settings) (state_slot finalized_epoch : ℕ) (vs : List Validator) (flag_index : ℕ) (v : Validator) → Agrees IsOverflow (rust.flag_index_deltas s (get_current_epoch s state_slot) (get_previous_epoch s state_slot) flag_index (totals_of s state_slot finalized_epoch vs flag_index) v) (document.flag_index_deltas s state_slot finalized_epoch vs flag_index v)
unfolding rust.flag_index_deltas document.flag_index_deltas rust.hit_deltas rust.miss_deltas
flag-deltas s state_slot finalized_epoch vs flag_index v =
    let previous_epoch = get_previous_epoch s state_slot in
    cond-agrees (is_eligible previous_epoch v)
    (bind-agrees _ (base_reward s _ v)
    (cond-agrees (is_unslashed_participating (get_current_epoch s state_slot) flag_index previous_epoch v)
    (cond-agrees (is_in_inactivity_leak s state_slot finalized_epoch) value-agrees
    (bind-agrees _ (mul64-agrees _ _) (bind-agrees _ (mul64-agrees _ _) (bind-agrees _ (mul64-agrees _ _) value-agrees))))
    (cond-agrees (eqb flag_index document.TIMELY_HEAD_FLAG_INDEX) value-agrees (bind-agrees _ (mul64-agrees _ _) value-agrees))))
    value-agrees

pub inactivity-deltas : (s : Settings) (quotient state_slot : ℕ) (v : Validator) → Agrees IsOverflow (rust.inactivity_penalty_deltas s quotient (get_current_epoch s state_slot) (get_previous_epoch s state_slot) v) (document.inactivity_penalty_deltas s quotient state_slot v)
unfolding rust.inactivity_penalty_deltas document.inactivity_penalty_deltas
inactivity-deltas s quotient state_slot v =
    let previous_epoch = get_previous_epoch s state_slot in
    cond-agrees (is_eligible previous_epoch v && not (is_unslashed_participating (get_current_epoch s state_slot) document.TIMELY_TARGET_FLAG_INDEX previous_epoch v))
    (bind-agrees _ (mul64-agrees _ _) (bind-agrees _ (mul64-agrees _ _) value-agrees))
    value-agrees

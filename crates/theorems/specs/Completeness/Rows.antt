-- The rows of docs/DIFFERENCES.md at which the document gives a record and the Rust answers 5: one constructor a row.
use Rattle.std.specs.Prelude.{◌≡◌, Bool, false, List, [], ◌⊎◌, ℕ, ◌*◌, ◌/◌, ◌^◌, ◌≤◌, ◌<◌}
use Rattle.definitions.specs.declared.Settings.{Settings}
use Rattle.definitions.specs.Lists.{filter}
use Rattle.definitions.specs.Record.{Validator, BeaconState}
use Rattle.definitions.specs.Checked.{value}
use Rattle.definitions.specs.Document.Phase0.Helpers.{get_current_epoch, get_previous_epoch}
use Rattle.definitions.specs.Document.Phase0.EpochProcessing.{is_eligible}
use Rattle.definitions.specs.Document.Altair.Helpers.{TIMELY_SOURCE_FLAG_INDEX, TIMELY_TARGET_FLAG_INDEX, TIMELY_HEAD_FLAG_INDEX, is_unslashed_participating, get_unslashed_participating_indices}
use Rattle.definitions.specs.Close as Rust
use Rattle.definitions.specs.Close.{finalized_epoch_of, Step, justification_step, inactivity_step, rewards_step, effective_balances_step}

-- after the genesis epoch, and the finalized epoch is above the previous epoch: the finality delay is below 0
pub record FinalizedAhead (s : Settings) (st : BeaconState) : Type 0 where
  pub started : 0 < get_current_epoch s st.finality.slot
  pub ahead : get_previous_epoch s st.finality.slot < finalized_epoch_of st

-- whether a validator hit a flag in the previous epoch, and those of the registry that did
abbrev pub hits : Settings → ℕ → ℕ → Validator → Bool
hits s state_slot flag_index v =
    is_unslashed_participating (get_current_epoch s state_slot) flag_index (get_previous_epoch s state_slot) v

abbrev pub hitters : Settings → BeaconState → ℕ → List Validator
hitters s st flag_index =
    get_unslashed_participating_indices s st.finality.slot st.validators flag_index (get_previous_epoch s st.finality.slot)

-- the two threshold products of the effective balances
abbrev pub downward : Settings → ℕ
downward s = s.effective_balance_increment / s.hysteresis_quotient * s.hysteresis_downward_multiplier

abbrev pub upward : Settings → ℕ
upward s = s.effective_balance_increment / s.hysteresis_quotient * s.hysteresis_upward_multiplier

-- of a step
pub data Row (s : Settings) (st : BeaconState) : Step → Type 0 where
  nobody_eligible : FinalizedAhead s st → filter (is_eligible (get_previous_epoch s st.finality.slot)) st.validators ≡ [] → Row s st inactivity_step
  nobody_hits : FinalizedAhead s st → hitters s st TIMELY_SOURCE_FLAG_INDEX ≡ [] → hitters s st TIMELY_TARGET_FLAG_INDEX ≡ [] → hitters s st TIMELY_HEAD_FLAG_INDEX ≡ [] → Row s st rewards_step
  no_validators : st.validators ≡ [] → (2 ^ 64 ≤ downward s) ⊎ (2 ^ 64 ≤ upward s) → Row s st effective_balances_step

-- of the leaf get_flag_index_deltas, which answers for one validator
pub record LeafRow (s : Settings) (state_slot finalized_epoch flag_index : ℕ) (v : Validator) : Type 0 where
  pub ahead : get_previous_epoch s state_slot < finalized_epoch
  pub missed : hits s state_slot flag_index v ≡ false

-- Of the whole close: the first row, of the state after justification, and the third. The second is none of a close, whose inactivity
-- step meets the delay first.
pub data CloseRow (s : Settings) (st : BeaconState) : Type 0 where
  at_inactivity : (justified : BeaconState) → Rust.step s st justification_step ≡ value justified → Row s justified inactivity_step → CloseRow s st
  at_effective_balances : Row s st effective_balances_step → CloseRow s st

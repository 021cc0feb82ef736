-- The law of the amounts, and where they come from.
use Rattle.std.specs.Prelude.{◌≡◌, List, [], ◌∷◌, ℕ, zero, suc, ◌+◌, ◌*◌, ◌<◌, length, get_or, take}
use Rattle.definitions.specs.declared.ActivationLimit.{ActivationLimit}
use Rattle.definitions.specs.declared.Settings.{Settings}
use Rattle.definitions.specs.declared.Deltas.{Deltas}
use Rattle.definitions.specs.declared.Checkpoint.{Checkpoint}
use Rattle.definitions.specs.declared.Finality.{Finality}
use Rattle.definitions.specs.Record.{Validator, BeaconState, nobody}
use Rattle.definitions.specs.Checked.{value}
use Rattle.definitions.specs.Rust.Phase0.Helpers.{get_current_epoch}
use Rattle.definitions.specs.Rust.Altair.Helpers.{TIMELY_SOURCE_FLAG_INDEX, TIMELY_TARGET_FLAG_INDEX, TIMELY_HEAD_FLAG_INDEX, get_flag_index_deltas, get_inactivity_penalty_deltas}
use Rattle.definitions.specs.Close.{finalized_epoch_of, limited_up_to}
use Rattle.definitions_close.specs.Amounts.{booked, limited_amounts}
use Rattle.laws_close.specs.Nine.{nine_of, rewards_in, taken_in, balance_at}

-- what the delta leaves answer of the validator v of the state that the rewards step finds, cut where the balance ends
pub record ByLeaves (s : Settings) (found : BeaconState) (v : Validator) (nine : List ℕ) : Type 0 where
  pub source : Deltas
  pub target : Deltas
  pub head : Deltas
  pub inactivity : Deltas
  pub source_is : get_flag_index_deltas s found.finality.slot (finalized_epoch_of found) found.validators TIMELY_SOURCE_FLAG_INDEX v ≡ value source
  pub target_is : get_flag_index_deltas s found.finality.slot (finalized_epoch_of found) found.validators TIMELY_TARGET_FLAG_INDEX v ≡ value target
  pub head-is : get_flag_index_deltas s found.finality.slot (finalized_epoch_of found) found.validators TIMELY_HEAD_FLAG_INDEX v ≡ value head
  pub inactivity-is : get_inactivity_penalty_deltas s s.inactivity_penalty_quotient_altair found.finality.slot v ≡ value inactivity
  pub cut : take 8 nine ≡ booked v.balance (source ∷ target ∷ head ∷ inactivity ∷ [])

-- of an accepted close
pub record Accounted (l : ActivationLimit) (s : Settings) (opening closing : BeaconState) : Type 0 where
  pub filled : List ℕ
  pub are : limited_amounts l s opening ≡ value filled
  pub long : length filled ≡ 9 * length opening.validators
  -- "Opening balance plus rewards less amounts taken equals closing balance for each validator."
  pub equal : (i : ℕ) → i < length opening.validators → balance_at opening.validators i + rewards_in (nine_of filled i) ≡ balance_at closing.validators i + taken_in (nine_of filled i)
  -- from epoch 1 on
  pub found : BeaconState
  pub finds : limited_up_to l 2 s opening ≡ value found
  pub leaves : (get_current_epoch s found.finality.slot ≡ 0 → ⊥) → (i : ℕ) → i < length opening.validators → ByLeaves s found (get_or found.validators i nobody) (nine_of filled i)

-- the checkpoint that a test sets; 0 sets none
unfoldable pub set_by : ℕ → Finality → Checkpoint
set_by zero old = old.finalized_checkpoint
set_by (suc zero) old = old.previous_justified_checkpoint
set_by (suc (suc zero)) old = old.previous_justified_checkpoint
set_by (suc (suc (suc n))) old = old.current_justified_checkpoint

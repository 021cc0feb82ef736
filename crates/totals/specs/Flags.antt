-- Which totals were raised, from their answers.
use Rattle.std.specs.Prelude.{◌≡◌, cond, List, ℕ, leb}
use Rattle.definitions.specs.declared.Settings.{Settings}
use Rattle.definitions.specs.declared.Total.{Total}
use Rattle.definitions.specs.declared.Raised.{Raised}
use Rattle.definitions.specs.Record.{Validator}
use Rattle.definitions.specs.Checked.{Checked, value, refused}
use Rattle.definitions.specs.Raised.{total_with_raised, none_raised}
use Rattle.definitions.specs.Rust.Phase0.Helpers.{get_current_epoch, get_previous_epoch, get_active_validator_indices}
use Rattle.definitions.specs.Rust.Altair.Helpers.{TIMELY_TARGET_FLAG_INDEX, get_unslashed_participating_indices}

unfoldable pub flag_for : Checked Total → ℕ
flag_for (value t) = t.raised
flag_for (refused r) = 0

unfoldable pub raised_of : ℕ → Checked Total → Checked Total → Checked Total → Raised
raised_of current_epoch active previous current =
    cond (leb current_epoch 1) none_raised (record { active = flag_for active; previous = flag_for previous; current = flag_for current })

-- the answers are the three totals of the validators vs
pub record ThreeTotals (s : Settings) (state_slot : ℕ) (vs : List Validator) (active previous current : Checked Total) : Type 0 where
  pub of_active : active ≡ total_with_raised s (get_active_validator_indices vs (get_current_epoch s state_slot))
  pub of_previous : previous ≡ total_with_raised s (get_unslashed_participating_indices s state_slot vs TIMELY_TARGET_FLAG_INDEX (get_previous_epoch s state_slot))
  pub of_current : current ≡ total_with_raised s (get_unslashed_participating_indices s state_slot vs TIMELY_TARGET_FLAG_INDEX (get_current_epoch s state_slot))

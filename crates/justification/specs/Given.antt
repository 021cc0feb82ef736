-- The three totals that the step weighs, where a caller has them.
use Rattle.std.specs.Prelude.{◌≡◌, List, ℕ}
use Rattle.definitions.specs.declared.Finality.{Finality}
use Rattle.definitions.specs.declared.Settings.{Settings}
use Rattle.definitions.specs.declared.Total.{Total}
use Rattle.definitions.specs.declared.CloseAnswer.{CloseAnswer}
use Rattle.definitions.specs.Checked.{Checked, value, bind}
use Rattle.definitions.specs.Raised.{raised_totals, close_answer_for}
use Rattle.definitions.specs.Record.{Validator}
use Rattle.definitions.specs.Rust.Phase0.Helpers.{get_current_epoch, get_previous_epoch, get_total_balance, get_total_active_balance}
use Rattle.definitions.specs.Rust.Altair.Helpers.{TIMELY_TARGET_FLAG_INDEX, get_unslashed_participating_indices}
use Rattle.definitions.specs.Rust.Altair.EpochProcessing.{process_justification_and_finalization}
use Rattle.totals.specs.Flags.{ThreeTotals}
use Rattle.justification.specs.declared.Justified.{Justified}

-- the answers of the validators vs
pub record Given (s : Settings) (state_slot : ℕ) (vs : List Validator) (total previous_target current_target : Checked ℕ) : Type 0 where
  pub active : total ≡ get_total_active_balance s state_slot vs
  pub previous : previous_target
      ≡ get_total_balance s (get_unslashed_participating_indices s state_slot vs TIMELY_TARGET_FLAG_INDEX (get_previous_epoch s state_slot))
  pub current : current_target
      ≡ get_total_balance s (get_unslashed_participating_indices s state_slot vs TIMELY_TARGET_FLAG_INDEX (get_current_epoch s state_slot))

-- The answer, over all validators that have these totals
pub record JustifiesGiven (s : Settings) (roots : List ℕ) (old : Finality) (total previous_target current_target : Checked ℕ)
    (r : Checked Finality) : Type 0 where
  pub of : (vs : List Validator) → Given s old.slot vs total previous_target current_target → r ≡ process_justification_and_finalization s roots old vs

-- with which of them were raised
abbrev pub justified_by : Settings → List ℕ → Finality → List Validator → Checked Justified
justified_by s roots old vs =
    bind (process_justification_and_finalization s roots old vs) (λ f. value (record { finality = f; raised = raised_totals s old.slot vs }))

pub record Justifies (s : Settings) (roots : List ℕ) (old : Finality) (total previous_target current_target : Checked Total)
    (r : Checked Justified) : Type 0 where
  pub of : (vs : List Validator) → ThreeTotals s old.slot vs total previous_target current_target → r ≡ justified_by s roots old vs

-- as one answer
pub record JustifiesTotals (s : Settings) (roots : List ℕ) (old : Finality) (total previous_target current_target : Checked Total)
    (r : CloseAnswer) : Type 0 where
  pub of : (vs : List Validator) → ThreeTotals s old.slot vs total previous_target current_target
      → r ≡ close_answer_for (process_justification_and_finalization s roots old vs) old (raised_totals s old.slot vs)

-- The registry after the step.
use Rattle.std.specs.Prelude.{List, ℕ, ◌/◌}
use Rattle.definitions.specs.declared.Settings.{Settings}
use Rattle.definitions.specs.Record.{Validator}
use Rattle.definitions.specs.Checked.{Checked, bind, map_checked}
use Rattle.definitions.specs.Rust.Phase0.Helpers.{get_current_epoch, get_total_active_balance}
use Rattle.slashings.specs.Adjusted.{adjusted_balance}
use Rattle.definitions_electra.specs.Evaluated.Electra.EpochProcessing.{slash}

-- by the adjusted balance, which is Altair's
unfoldable pub slashed_registry : Settings → ℕ → ℕ → List ℕ → List Validator → Checked (List Validator)
slashed_registry s multiplier state_slot slashings vs =
    bind (get_total_active_balance s state_slot vs) (λ total.
    bind (adjusted_balance multiplier total slashings) (λ adjusted.
    map_checked (slash s (get_current_epoch s state_slot) (adjusted / (total / s.effective_balance_increment))) vs))

-- The steps after the first, on the record so far, and what the code promises of them.
use Rattle.std.specs.Prelude.{◌≡◌, cond, List, ℕ, eqb, length, replicate}
use Rattle.definitions.specs.declared.Settings.{Settings}
use Rattle.definitions.specs.Record.{Validator, BeaconState, encode}
use Rattle.definitions.specs.Checked.{Checked, value, settle}
use Rattle.definitions.specs.Checked as checked
use Rattle.definitions.specs.Rust.Phase0.EpochProcessing.{process_registry_updates, process_effective_balance_updates}
use Rattle.definitions.specs.Rust.Altair.EpochProcessing.{process_inactivity_updates, process_participation_flag_updates}
use Rattle.definitions.specs.Close.{step}
use Rattle.definitions_close.specs.CloseBySteps.{step_after, amounts_by}

-- the four over the registry that book nothing, after so many steps
unfoldable pub plain_by : ℕ → Settings → ℕ → ℕ → List Validator → Checked (List Validator)
plain_by done s state_slot finalized_epoch vs =
    cond (eqb done 1) (process_inactivity_updates s state_slot finalized_epoch vs)
    (cond (eqb done 3) (process_registry_updates s state_slot finalized_epoch vs)
    (cond (eqb done 5) (process_effective_balance_updates s vs) (value (process_participation_flag_updates vs))))

-- the step after so many, on the state `before` with these amounts. The caller puts the opening back where it is refused.
pub record LaterRan (done : ℕ) (s : Settings) (before : BeaconState) (lent registry slashings amounts : List ℕ) (r : Checked (Unit {0})) : Type 0 where
  pub is : r ≡ checked.done (step s before (step_after done))
  pub held : (after : BeaconState) → step s before (step_after done) ≡ value after
      → (registry ≡ encode after.validators) × (slashings ≡ after.slashings) × (after.finality ≡ before.finality)
      × (amounts ≡ settle (amounts_by (step_after done) s before lent) (replicate (length lent) 0))

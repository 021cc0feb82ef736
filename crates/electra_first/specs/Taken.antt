-- The registry step and slashings.
use Rattle.std.specs.Prelude.{List, [], ℕ, get_or}
use Rattle.definitions.specs.Record.{Validator, nobody}
use Rattle.definitions.specs.Checked.{Checked, value, bind}
use Rattle.definitions_electra.specs.declared.ElectraRules.{ElectraRules}
use Rattle.definitions_electra.specs.declared.ExitChurn.{ExitChurn}
use Rattle.definitions_electra.specs.Calls.{lent_state, lent_finality, no_deposit_numbers}
use Rattle.definitions_electra.specs.Evaluated.Electra.EpochProcessing.{process_registry_updates}
use Rattle.electra_registry.specs.Updates.{Exiting, exiting_in}
use Rattle.electra_slashings.specs.Slashed.{slashed_registry}

-- the registry step, of validators and churn
unfoldable pub exits_of : ElectraRules → ℕ → ℕ → ExitChurn → List Validator → Checked Exiting
exits_of r state_slot finalized_epoch churn vs =
    exiting_in (process_registry_updates r (lent_state (lent_finality state_slot finalized_epoch) vs [] [] churn no_deposit_numbers [] []))

pub record Taken : Type 0 where
  pub updated : Exiting
  pub lessened : List Validator

unfoldable pub taken_by : ElectraRules → ℕ → ℕ → List ℕ → ExitChurn → List Validator → Checked Taken
taken_by r state_slot finalized_epoch slashings churn vs =
    bind (exits_of r state_slot finalized_epoch churn vs) (λ e.
    bind (slashed_registry r.settings r.bellatrix.proportional_slashing_multiplier_bellatrix state_slot slashings e.validators) (λ ws.
    value (record { updated = e; lessened = ws })))

abbrev pub balance_at : List Validator → ℕ → ℕ
balance_at vs i = (get_or vs i nobody).balance

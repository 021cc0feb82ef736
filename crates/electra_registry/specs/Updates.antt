-- Electra's registry loop by the numbers of a record, over the registry and the two numbers of the exit queue that it moves: proofs/Loop.antt, it is
-- the text's.
use Rattle.std.specs.Prelude.{◌≡◌, List, ℕ, ◌+◌, length, get_or, set}
use Rattle.definitions.specs.Lists.{range}
use Rattle.definitions.specs.Record.{Validator, nobody, encode}
use Rattle.definitions.specs.Checked.{Checked, value, bind, settle, fold_checked}
use Rattle.definitions.specs.Document.Phase0.Helpers.{get_current_epoch}
use Rattle.definitions_electra.specs.declared.ElectraRules.{ElectraRules}
use Rattle.definitions_electra.specs.declared.ExitChurn.{ExitChurn}
use Rattle.definitions_electra.specs.Record.{ElectraState}
use Rattle.definitions_electra.specs.Evaluated.Electra.Helpers.{get_activation_exit_churn_limit}
use Rattle.electra_registry.specs.declared.updates.RegistryNumbers.{RegistryNumbers}
use Rattle.electra_registry.specs.Turns.{Turned, turn_by}

abbrev pub numbers_of : ElectraRules → ℕ → ℕ → List Validator → RegistryNumbers
numbers_of r state_slot finalized_epoch vs =
    record {
      epoch = get_current_epoch r.settings state_slot;
      finalized_epoch = finalized_epoch;
      least = get_current_epoch r.settings state_slot + 1 + r.settings.max_seed_lookahead;
      limit = settle (get_activation_exit_churn_limit r state_slot vs) 0;
      delay = r.settings.min_validator_withdrawability_delay;
      min_activation_balance = r.electra.min_activation_balance;
      ejection_balance = r.settings.ejection_balance;
    }

-- what the loop moves
pub record Exiting : Type 0 where
  pub validators : List Validator
  pub churn : ExitChurn

abbrev pub exiting : List Validator → ExitChurn → Exiting
exiting vs churn = record { validators = vs; churn = churn }

-- the turn f at one place
unfoldable pub turn_at : (ExitChurn → Validator → Checked Turned) → Exiting → ℕ → Checked Exiting
turn_at f e i = bind (f e.churn (get_or e.validators i nobody)) (λ t. value (exiting (set e.validators i t.validator) t.churn))

unfoldable pub updates_by : RegistryNumbers → Exiting → Checked Exiting
updates_by n e = fold_checked (turn_at (turn_by n)) e (range 0 (length e.validators))

-- the same of a whole state
abbrev pub exiting_in : Checked ElectraState → Checked Exiting
exiting_in m = bind m (λ st. value (exiting st.altair.validators st.churn))

-- What a function on a lent registry and the churn promises: the two numbers, or why it is refused, and the registry where it is not
pub record Moves (m : Checked Exiting) (xs : List ℕ) (r : Checked ExitChurn) : Type 0 where
  pub is : r ≡ bind m (λ e. value e.churn)
  pub held : (e : Exiting) → m ≡ value e → xs ≡ encode e.validators

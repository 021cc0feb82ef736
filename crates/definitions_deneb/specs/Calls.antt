-- Document 03, F-1: "the registry step and the whole close under Deneb's rules: settings, the Bellatrix pair, and
-- max_per_epoch_activation_churn_limit, by value."
use Rattle.std.specs.Prelude.{List, [], ◌∷◌, ℕ}
use Rattle.definitions.specs.declared.Rules.{Rules}
use Rattle.definitions.specs.declared.ActivationLimit.{ActivationLimit}
use Rattle.definitions.specs.declared.ActivationLimit.TheVariants.{AtMost}
use Rattle.definitions.specs.declared.Finality.{Finality}
use Rattle.definitions.specs.declared.ExitQueue.{ExitQueue}
use Rattle.definitions.specs.Record.{Validator, BeaconState, decode}
use Rattle.definitions.specs.Checked.{Checked}
use Rattle.definitions.specs.Refusals.{in_order, is_small, settings_shaped, registry_shaped, same_length, good_registry}
use Rattle.definitions.specs.Rules.{«BELLATRIX», good_rules}
use Rattle.definitions.specs.Rust.Phase0.EpochProcessing.{limited_registry_updates}
use Rattle.definitions.specs.Document.Deneb as Deneb
use Rattle.definitions.specs.Close.{good_limit}
use Rattle.definitions_close.specs.QueueCalls.{then_queue}
use Rattle.definitions_close.specs.FullClose.{FullCall, FullOutcome, limited_full_close}
use Rattle.definitions_deneb.specs.declared.DenebRules.{DenebRules}

-- "All else is Capella's", whose steps are Bellatrix's
abbrev pub under_bellatrix : DenebRules → Rules
under_bellatrix r = record { settings = r.settings; fork = «BELLATRIX»; bellatrix = r.bellatrix }

abbrev pub limit_of : DenebRules → ActivationLimit
limit_of r = AtMost r.max_per_epoch_activation_churn_limit

-- The registry step. "Test 2: as under fork 1, and the new number below 2^48."

unfoldable pub registry_tests : DenebRules → ℕ → ℕ → ExitQueue → List ℕ → List ℕ → Checked (Unit {0})
registry_tests r state_slot finalized_epoch queue opening closing =
    let shaped = settings_shaped r.settings ∷ registry_shaped opening ∷ same_length opening closing ∷ [] in
    let recorded = is_small state_slot ∷ is_small finalized_epoch ∷ good_registry opening ∷ [] in
    then_queue (in_order shaped (good_rules (under_bellatrix r) ∷ good_limit (limit_of r)) recorded) queue opening

abbrev pub registry_work : DenebRules → ℕ → ℕ → List ℕ → Checked (List Validator)
registry_work r state_slot finalized_epoch opening = limited_registry_updates (limit_of r) r.settings state_slot finalized_epoch (decode opening)

-- The close: "takes and answers all that altair_close does"

pub record DenebCall : Type 0 where
  pub rules : DenebRules
  pub finality : Finality
  pub queue : ExitQueue
  pub registry : List ℕ
  pub slashings : List ℕ
  pub roots : List ℕ
  pub closing_registry : List ℕ
  pub closing_slashings : List ℕ
  pub amounts : List ℕ

-- what the call is lent, field by field
abbrev pub deneb_called : DenebRules → Finality → ExitQueue → List ℕ → List ℕ → List ℕ → List ℕ → List ℕ → List ℕ → DenebCall
deneb_called rules f queue registry slashings roots closing_registry closing_slashings amounts =
    record {
      rules = rules;
      finality = f;
      queue = queue;
      registry = registry;
      slashings = slashings;
      roots = roots;
      closing_registry = closing_registry;
      closing_slashings = closing_slashings;
      amounts = amounts;
    }

abbrev pub as_bellatrix : DenebCall → FullCall
as_bellatrix c =
    record {
      call = record {
        rules = under_bellatrix c.rules;
        finality = c.finality;
        registry = c.registry;
        slashings = c.slashings;
        roots = c.roots;
        closing_registry = c.closing_registry;
        closing_slashings = c.closing_slashings;
      };
      queue = c.queue;
      amounts = c.amounts;
    }

-- one number is Deneb's own
unfoldable pub deneb_close : DenebCall → FullOutcome
deneb_close c = limited_full_close (limit_of c.rules) (as_bellatrix c)

-- the document that it is held to
abbrev pub deneb_document : DenebRules → BeaconState → BeaconState
deneb_document r st = Deneb.process_epoch r.settings r.bellatrix r.max_per_epoch_activation_churn_limit st

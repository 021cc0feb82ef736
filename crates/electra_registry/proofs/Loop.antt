-- The loop by numbers is the text's: the limit that is worked out once is the one that each turn reads.
use mathlib.Core.Path.{◌≡◌, refl, sym, ◌∙◌}
use mathlib.Core.Bool.{true}
use mathlib.Core.List.{List, [], ◌∷◌}
use Prim.Native.Nat.{ℕ, ◌^◌, ◌<◌}
use native.Mathlib.Omega.{arith}
use lib.ListN.{length, get_or, set}
use Rattle.definitions.specs.Lists.{range}
use Rattle.definitions.specs.Record.{decode, nobody}
use Rattle.definitions.specs.Checked.{Checked, value, refused, bind, settle, fold_checked}
use Rattle.definitions.specs.Rust.Phase0.Helpers.{compute_activation_exit_epoch}
use Rattle.registry.proofs.Epochs.{Epochs}
use Rattle.definitions_electra.specs.declared.ElectraRules.{ElectraRules}
use Rattle.definitions_electra.specs.declared.ExitChurn.{ExitChurn}
use Rattle.definitions_electra.specs.Record.{ElectraState}
use Rattle.definitions_electra.specs.Refusals.{good_electra}
use Rattle.definitions_electra.specs.Document.Electra.EpochProcessing.{current_epoch_of}
use Rattle.definitions_electra.specs.Evaluated.Electra.Helpers.{get_activation_exit_churn_limit}
use Rattle.definitions_electra.specs.Evaluated.Electra.EpochProcessing.{update_registry_at, process_registry_updates}
use Rattle.definitions_electra.specs.Calls.{registry_work}
use Rattle.electra_registry.specs.Turns.{limit_of, Turned, turn_by}
use Rattle.electra_registry.specs.Updates.{numbers_of, Exiting, exiting, turn_at, updates_by, exiting_in}
use Rattle.electra_registry.proofs.Limits.{limit-good}
use Rattle.electra_registry.proofs.Text.{numbers_in, put, turn-text}
use Rattle.electra_registry.proofs.Active.{turn-weight, limit-set}

-- by the list of the places
module _ (r : ElectraRules) (least limit : ℕ) where
  abbrev turns_by : ElectraState → Exiting → ℕ → Checked Exiting
  turns_by st = turn_at (turn_by (numbers_in r st least limit))

  abbrev Same : ElectraState → List ℕ → Type 0
  Same st is = exiting_in (fold_checked (update_registry_at r least) st is) ≡ fold_checked (turns_by st) (exiting st.altair.validators st.churn) is

  abbrev Limited : ElectraState → Type 0
  Limited st = limit_of limit ≡ get_activation_exit_churn_limit r st.altair.finality.slot st.altair.validators

  loop-text : (st : ElectraState) → compute_activation_exit_epoch r.settings (current_epoch_of r st) ≡ value least → current_epoch_of r st < 2 ^ 48 → current_epoch_of r st < least → Limited st → (is : List ℕ) → Same st is
  unfolding fold_checked bind turn_at
  loop-text st a small late e [] = refl
  loop-text st a small late e (i ∷ is) = rw (turn-text r st least limit a e i (omega (arith, small))) (go (turn_by (numbers_in r st least limit) st.churn (get_or st.altair.validators i nobody)) refl (λ t h. loop-text (put r st least limit a e i t) a small late h is))
    where
      go : (m : Checked Turned) → turn_by (numbers_in r st least limit) st.churn (get_or st.altair.validators i nobody) ≡ m → ((t : Turned) → Limited (put r st least limit a e i t) → Same (put r st least limit a e i t) is) → exiting_in (bind (bind m (λ t. value (put r st least limit a e i t))) (λ c. fold_checked (update_registry_at r least) c is)) ≡ bind (bind m (λ t. value (exiting (set st.altair.validators i t.validator) t.churn))) (λ c. fold_checked (turns_by st) c is)
      go (value t) q rest = rest t (e ∙ sym (limit-set r st.altair.finality.slot st.altair.validators i t.validator (turn-weight (numbers_in r st least limit) st.churn (get_or st.altair.validators i nobody) small late q)))
      go (refused p) q rest = refl

-- the step
pub registry-text : (r : ElectraRules) (state_slot finalized_epoch : ℕ) (churn : ExitChurn) (xs : List ℕ) → good_electra r ≡ true → Epochs r.settings state_slot → exiting_in (registry_work r state_slot finalized_epoch churn xs) ≡ updates_by (numbers_of r state_slot finalized_epoch (decode xs)) (exiting (decode xs) churn)
unfolding registry_work process_registry_updates updates_by bind
registry-text r state_slot finalized_epoch churn xs good p =
    rw p.least
    (loop-text r _ (settle (get_activation_exit_churn_limit r state_slot (decode xs)) 0) _ p.least p.small (omega arith)
    (limit-good r state_slot (decode xs) good) (range 0 (length (decode xs))))

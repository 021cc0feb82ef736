-- The turn by numbers is the text's turn, and so are the exits that are calls of their own.
use mathlib.Core.Path.{◌≡◌, refl, sym, ◌∙◌}
use mathlib.Core.Bool.{Bool, true, false, cond}
use mathlib.Core.List.{List, []}
use Prim.Native.Nat.{ℕ, ◌+◌, ◌^◌, ◌<◌}
use borrow.Author.Tests.{lt-ltb}
use lib.Dec.{eqb}
use lib.ListN.{get_or, set}
use lib.Seq.{set-get_or}
use Rattle.definitions.specs.Record.{Validator, FAR_FUTURE_EPOCH, nobody, decode}
use Rattle.definitions.specs.Updates.{with_eligibility, with_activation}
use Rattle.definitions.specs.Checked.{Checked, value, bind, add64, settle}
use Rattle.definitions.specs.Rust.Phase0.Helpers.{get_current_epoch, compute_activation_exit_epoch}
use Rattle.laws.proofs.Checked.{bind-bind}
use Rattle.laws_electra.proofs.Cases.{test_or, bind-given}
use Rattle.registry.proofs.Epochs.{Epochs}
use Rattle.definitions_electra.specs.declared.ElectraRules.{ElectraRules}
use Rattle.definitions_electra.specs.declared.ExitChurn.{ExitChurn}
use Rattle.definitions_electra.specs.Record.{ElectraState, with_vs, with_churn}
use Rattle.definitions_electra.specs.Refusals.{good_electra}
use Rattle.definitions_electra.specs.Document.Electra.Helpers.{is_eligible_for_activation_queue}
use Rattle.definitions_electra.specs.Document.Electra.EpochProcessing.{current_epoch_of, finalized_epoch_of}
use Rattle.definitions_electra.specs.Evaluated.Electra.Helpers.{get_activation_exit_churn_limit, compute_exit_epoch_and_update_churn, initiate_validator_exit}
use Rattle.definitions_electra.specs.Evaluated.Electra.EpochProcessing.{update_registry_at}
use Rattle.definitions_electra.specs.Calls.{lent_finality, no_deposit_numbers, lent_state, exit_work}
use Rattle.electra_registry.specs.declared.updates.RegistryNumbers.{RegistryNumbers}
use Rattle.electra_registry.specs.Turns.{limit_of, churn_by, Turned, kept, exit_with, is_queued, is_ejected_by, is_activated, turn_by}
use Rattle.electra_registry.proofs.Limits.{limit-good}
use Rattle.electra_registry.specs.Updates.{exiting, turn_at, exiting_in}

-- the first of three cases that holds, then k
first_of : {A B : Type 0} (k : A → Checked B) (p q s : Bool) (m₁ m₂ m₃ m₄ : Checked A) {n₁ n₂ n₃ n₄ : Checked B} → n₁ ≡ bind m₁ k → n₂ ≡ bind m₂ k → n₃ ≡ bind m₃ k → n₄ ≡ bind m₄ k → cond p n₁ (cond q n₂ (cond s n₃ n₄)) ≡ bind (cond p m₁ (cond q m₂ (cond s m₃ m₄))) k
first_of k true q s m₁ m₂ m₃ m₄ a b c d = a
first_of k false true s m₁ m₂ m₃ m₄ a b c d = b
first_of k false false true m₁ m₂ m₃ m₄ a b c d = c
first_of k false false false m₁ m₂ m₃ m₄ a b c d = d

-- the numbers of a state, with the least exit epoch and the limit as they were worked out
abbrev pub numbers_in : ElectraRules → ElectraState → ℕ → ℕ → RegistryNumbers
numbers_in r st least limit =
    record {
      epoch = current_epoch_of r st;
      finalized_epoch = finalized_epoch_of st;
      least = least;
      limit = limit;
      delay = r.settings.min_validator_withdrawability_delay;
      min_activation_balance = r.electra.min_activation_balance;
      ejection_balance = r.settings.ejection_balance;
    }

-- The turn
module _ (r : ElectraRules) (st : ElectraState) (least limit : ℕ) (a : compute_activation_exit_epoch r.settings (current_epoch_of r st) ≡ value least) (e : limit_of limit ≡ get_activation_exit_churn_limit r st.altair.finality.slot st.altair.validators) (i : ℕ) where
  abbrev vs : List Validator
  vs = st.altair.validators

  abbrev v : Validator
  v = get_or st.altair.validators i nobody

  abbrev numbers : RegistryNumbers
  numbers = numbers_in r st least limit

  abbrev pub put : Turned → ElectraState
  put t = with_churn t.churn (with_vs (set st.altair.validators i t.validator) st)

  stays : ◌≡◌ {A = Checked ElectraState} (value st) (value (put (kept st.churn v)))
  stays = rw (set-get_or st.altair.validators i nobody)

  pub exit-text : initiate_validator_exit r st i ≡ bind (exit_with least limit r.settings.min_validator_withdrawability_delay st.churn v) (λ t. value (put t))
  unfolding initiate_validator_exit compute_exit_epoch_and_update_churn exit_with churn_by
  exit-text = rw (a, bind-given, ← e) (test_or (eqb v.exit_epoch FAR_FUTURE_EPOCH) (λ t. rw t (simp (bind-bind, bind-given))) (λ t. rw t (stays ∙ sym (bind-given (kept st.churn v) (λ t. value (put t))))))

  pub turn-text : current_epoch_of r st + 1 < 2 ^ 64 → update_registry_at r least st i ≡ bind (turn_by numbers st.churn v) (λ t. value (put t))
  unfolding update_registry_at turn_by bind add64 is_eligible_for_activation_queue
  turn-text l =
      rw (lt-ltb (current_epoch_of r st + 1) (2 ^ 64) l)
      (first_of (λ t. value (put t)) (is_queued numbers v) (is_ejected_by numbers v) (is_activated numbers v)
      (value (kept st.churn (with_eligibility (current_epoch_of r st + 1) v))) (exit_with least limit r.settings.min_validator_withdrawability_delay st.churn v)
      (value (kept st.churn (with_activation least v))) (value (kept st.churn v)) refl exit-text refl stays)

-- Calls

module _ (r : ElectraRules) (state_slot : ℕ) (good : good_electra r ≡ true) (p : Epochs r.settings state_slot) (xs : List ℕ) (churn : ExitChurn) where
  abbrev least_now : ℕ
  least_now = get_current_epoch r.settings state_slot + 1 + r.settings.max_seed_lookahead

  abbrev limit_now : ℕ
  limit_now = settle (get_activation_exit_churn_limit r state_slot (decode xs)) 0

  pub churn-text : (balance : ℕ) → compute_exit_epoch_and_update_churn r state_slot (decode xs) churn balance ≡ churn_by least_now limit_now churn balance
  unfolding compute_exit_epoch_and_update_churn churn_by bind
  churn-text balance = rw (p.least, limit-good r state_slot (decode xs) good)

  pub exit-work : (index : ℕ) → exiting_in (exit_work r state_slot index churn xs) ≡ turn_at (exit_with least_now limit_now r.settings.min_validator_withdrawability_delay) (exiting (decode xs) churn) index
  unfolding exit_work turn_at bind
  exit-work index = rw (exit-text r (lent_state (lent_finality state_slot 0) (decode xs) [] [] churn no_deposit_numbers [] []) least_now limit_now p.least (limit-good r state_slot (decode xs) good) index) (bind-bind (exit_with least_now limit_now r.settings.min_validator_withdrawability_delay churn (get_or (decode xs) index nobody)) _ _)

-- The step by its three totals.
use mathlib.Core.Path.{◌≡◌, sym, ap, ◌∙◌}
use mathlib.Core.List.{List}
use Prim.Native.Nat.{ℕ, ◌≤◌, ◌<◌}
use borrow.Author.Tests.{le-leb, lt-leb}
use Rattle.definitions.specs.declared.Finality.{Finality}
use Rattle.definitions.specs.declared.Settings.{Settings}
use Rattle.definitions.specs.declared.Total.{Total}
use Rattle.definitions.specs.Record.{Validator}
use Rattle.definitions.specs.declared.Raised.{Raised}
use Rattle.definitions.specs.declared.CloseAnswer.{CloseAnswer}
use Rattle.definitions.specs.declared.Refusal.{Refusal}
use Rattle.definitions.specs.Checked.{Checked, value, refused, number_of, bind}
use Rattle.definitions.specs.Raised.{none_raised, raised_unless_refused, close_answer_for}
use Rattle.laws.proofs.Checked.{not_value, value_same, refused_same}
use Rattle.totals.proofs.raising.Answered.{hands_back}
use Rattle.justification.specs.declared.Justified.{Justified}
use Rattle.definitions.specs.Rust.Phase0.Helpers.{get_current_epoch, get_previous_epoch, get_total_balance, get_total_active_balance}
use Rattle.definitions.specs.Rust.Phase0.EpochProcessing.{weigh_justification_and_finalization}
use Rattle.definitions.specs.Rust.Altair.Helpers.{TIMELY_TARGET_FLAG_INDEX, get_unslashed_participating_indices}
use Rattle.definitions.specs.Rust.Altair.EpochProcessing.{process_justification_and_finalization}
use Rattle.totals.specs.Totals.{balance_for}
use Rattle.totals.proofs.WithRaised.{says-balance}
use Rattle.totals.specs.Flags.{ThreeTotals}
use Rattle.justification.specs.Given.{Given}

-- what the weighing is handed
abbrev weighed_totals : Settings → List ℕ → Finality → List Validator → Checked Finality
weighed_totals s roots old vs =
    let target = get_unslashed_participating_indices s old.slot vs TIMELY_TARGET_FLAG_INDEX in
    bind (get_total_active_balance s old.slot vs) (λ total.
    bind (get_total_balance s (target (get_previous_epoch s old.slot))) (λ previous_target.
    bind (get_total_balance s (target (get_current_epoch s old.slot))) (λ current_target.
    weigh_justification_and_finalization s roots old total previous_target current_target)))

module _ (s : Settings) (roots : List ℕ) (old : Finality) (vs : List Validator) where
  pub first-epochs : get_current_epoch s old.slot ≤ 1 → process_justification_and_finalization s roots old vs ≡ value old
  unfolding process_justification_and_finalization
  first-epochs h = rw (le-leb _ _ h)

  -- later, by the answer r of the totals and the weighing
  pub later-epochs : 1 < get_current_epoch s old.slot → {r : Checked Finality} → r ≡ weighed_totals s roots old vs → r ≡ process_justification_and_finalization s roots old vs
  unfolding process_justification_and_finalization
  later-epochs l h = h ∙ rw (lt-leb _ _ l)

-- the balances a, b and c of the three totals
pub given : (s : Settings) (state_slot : ℕ) (vs : List Validator) {total previous_target current_target : Checked Total} {a b c : Checked ℕ} → ThreeTotals s state_slot vs total previous_target current_target → a ≡ balance_for total → b ≡ balance_for previous_target → c ≡ balance_for current_target → Given s state_slot vs a b c
unfolding get_total_active_balance
given s state_slot vs h x y z = record { active = says-balance s _ h.of_active x; previous = says-balance s _ h.of_previous y; current = says-balance s _ h.of_current z }

-- the answer by what was justified, or by its refusal
module _ (m : Checked Finality) (old : Finality) (raised : Raised) where
  pub justified-value : {j : Justified} → bind {B = Justified} m (λ f. value (record { finality = f; raised = raised })) ≡ value j → ◌≡◌ {A = CloseAnswer} (record { refusal = 0; finality = j.finality; raised = j.raised }) (close_answer_for m old raised)
  unfolding bind raised_unless_refused
  justified-value {j} e = go m e
    where
      go : (m : Checked Finality) → bind {B = Justified} m (λ f. value (record { finality = f; raised = raised })) ≡ value j → ◌≡◌ {A = CloseAnswer} (record { refusal = 0; finality = j.finality; raised = j.raised }) (close_answer_for m old raised)
      go (value f) e = ap (λ (k : Justified). record { refusal = 0; finality = k.finality; raised = k.raised }) (sym (value_same e))
      go (refused p) e = absurd (not_value e)

  pub justified-refused : {p : Refusal} {x : ℕ} {none : Raised} → bind {B = Justified} m (λ f. value (record { finality = f; raised = raised })) ≡ refused p → x ≡ number_of p → none ≡ none_raised → ◌≡◌ {A = CloseAnswer} (record { refusal = x; finality = old; raised = none }) (close_answer_for m old raised)
  unfolding bind
  justified-refused {p} e n h = hands_back old raised (go m e) n h
    where
      go : (m : Checked Finality) → bind {B = Justified} m (λ f. value (record { finality = f; raised = raised })) ≡ refused p → m ≡ refused p
      go (value f) e = absurd (not_value (sym e))
      go (refused q) e = ap refused (refused_same e)

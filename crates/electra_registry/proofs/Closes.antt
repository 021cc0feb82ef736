-- What a call on the registry and the churn answers and leaves: `x` is what its tests answered.
use mathlib.Core.Path.{◌≡◌, refl, sym, ap, ◌∙◌}
use mathlib.Core.Bool.{true, false, cond}
use mathlib.Core.List.{List}
use Prim.Native.Nat.{ℕ}
use Rattle.std.specs.Prelude.{is_ok, is_err}
use Rattle.definitions.specs.Checked.{Checked, value, refused, bind}
use Rattle.definitions.specs.declared.Refusal.{Refusal}
use Rattle.definitions.specs.Refusals.{after_tests, closing_buffer}
use Rattle.refusals.proofs.Answers.{after-passed, after-refused, closing-untouched}
use Rattle.definitions_electra.specs.declared.ExitChurn.{ExitChurn}
use Rattle.definitions_electra.specs.declared.ExitChurnAnswer.{ExitChurnAnswer}
use Rattle.definitions_electra.specs.Record.{ElectraState}
use Rattle.definitions_electra.specs.Calls.{registry_in, churn_in, exit_churn_answer, ChurnCloses}
use Rattle.electra_registry.specs.Updates.{exiting_in, Moves}

-- the opening stands again where the work was refused

pub back : (m : Checked ExitChurn) (xs : List ℕ) {ys after : List ℕ} → is_err m ≡ true → after ≡ ys → after ≡ cond (is_ok m) xs ys
back (value c) xs e h = cc
back (refused p) xs e h = h

pub kept : (m : Checked ExitChurn) {xs after : List ℕ} (ys : List ℕ) → is_err m ≡ false → after ≡ xs → after ≡ cond (is_ok m) xs ys
kept (value c) ys e h = h
kept (refused p) ys e h = cc

module _ (tests : Checked (Unit {0})) (work : Checked ElectraState) {churn : ExitChurn} {opening closing : List ℕ} {x : Checked (Unit {0})} (e : x ≡ tests) where
  pub churn-refused : {p : Refusal} {a : ExitChurnAnswer} → x ≡ refused p → a ≡ exit_churn_answer (refused p) churn → ChurnCloses tests work churn opening closing closing a
  unfolding bind
  churn-refused z h =
      record {
        answer = h ∙ ap (λ (m : Checked ElectraState). exit_churn_answer (churn_in m) churn) (sym (after-refused tests work e z));
        buffer = sym (closing-untouched registry_in tests work opening closing e z);
      }

  -- the work ran on a copy of the opening, which was put back where it was refused
  pub churn-closes : {xs after : List ℕ} {r : Checked ExitChurn} {a : ExitChurnAnswer} → x ≡ value tt → Moves (exiting_in work) xs r → after ≡ cond (is_ok r) xs opening → a ≡ exit_churn_answer r churn → ChurnCloses tests work churn opening closing after a
  unfolding after_tests bind closing_buffer
  churn-closes {xs} {after} {r} {a} z h k i = rw (sym e ∙ z) (go work h)
    where
      go : (w : Checked ElectraState) → Moves (exiting_in w) xs r → ChurnCloses (value tt) w churn opening closing after a
      go (value st) h = record { answer = i ∙ ap (λ (m : Checked ExitChurn). exit_churn_answer m churn) h.is; buffer = (rw h.is at k) ∙ h.held _ refl }
      go (refused p) h = record { answer = i ∙ ap (λ (m : Checked ExitChurn). exit_churn_answer m churn) h.is; buffer = rw h.is at k }

-- the two numbers alone
module _ (tests : Checked (Unit {0})) (work : Checked ExitChurn) (churn : ExitChurn) {x : Checked (Unit {0})} (e : x ≡ tests) {a : ExitChurnAnswer} where
  pub answer-refused : {p : Refusal} → x ≡ refused p → a ≡ exit_churn_answer (refused p) churn → a ≡ exit_churn_answer (after_tests tests work) churn
  answer-refused z h = h ∙ ap (λ (m : Checked ExitChurn). exit_churn_answer m churn) (sym (after-refused tests work e z))

  pub answer-told : {m : Checked ExitChurn} → x ≡ value tt → m ≡ work → a ≡ exit_churn_answer m churn → a ≡ exit_churn_answer (after_tests tests work) churn
  answer-told z h k = k ∙ ap (λ (m : Checked ExitChurn). exit_churn_answer m churn) (h ∙ sym (after-passed tests work e z))

-- A finality's answer, with what was raised.
use mathlib.Core.Path.{◌≡◌, sym, ap, ◌∙◌}
use Prim.Native.Nat.{ℕ}
use Rattle.definitions.specs.declared.Finality.{Finality}
use Rattle.definitions.specs.declared.Raised.{Raised}
use Rattle.definitions.specs.declared.CloseAnswer.{CloseAnswer}
use Rattle.definitions.specs.declared.Refusal.{Refusal}
use Rattle.definitions.specs.Checked.{Checked, value, refused, number_of}
use Rattle.definitions.specs.Raised.{none_raised, raised_unless_refused, close_answer_for}
use Rattle.definitions.specs.Refusals.{after_tests}
use Rattle.refusals.proofs.Answers.{after-passed, after-refused}

module _ {m : Checked Finality} (old : Finality) (raised : Raised) where
  -- the definition's answer is the code's
  pub answered-with : {r : Checked Finality} → r ≡ m → close_answer_for r old raised ≡ close_answer_for m old raised
  answered-with e = ap (λ (m : Checked Finality). close_answer_for m old raised) e

  pub hands_on : {f : Finality} → m ≡ value f → ◌≡◌ {A = CloseAnswer} (record { refusal = 0; finality = f; raised = raised }) (close_answer_for m old raised)
  unfolding raised_unless_refused
  hands_on e = sym (ap (λ (m : Checked Finality). close_answer_for m old raised) e)

  pub hands_back : {q : Refusal} {x : ℕ} {none : Raised} → m ≡ refused q → x ≡ number_of q → none ≡ none_raised → ◌≡◌ {A = CloseAnswer} (record { refusal = x; finality = old; raised = none }) (close_answer_for m old raised)
  unfolding raised_unless_refused
  hands_back {q} {x} {none} e n h =
      let same : ◌≡◌ {A = CloseAnswer} (record { refusal = x; finality = old; raised = none }) (record { refusal = number_of q; finality = old; raised = none_raised }) = λ i. record { refusal = n i; finality = old; raised = h i } in
      same ∙ sym (ap (λ (m : Checked Finality). close_answer_for m old raised) e)

-- after tests, whose code answered `x`
module _ (tests : Checked (Unit {0})) (work : Checked Finality) (old : Finality) (raised : Raised) {x : Checked (Unit {0})} (e : x ≡ tests) where
  pub close_refused_first : {p : Refusal} {n : ℕ} {none : Raised} → x ≡ refused p → n ≡ number_of p → none ≡ none_raised → ◌≡◌ {A = CloseAnswer} (record { refusal = n; finality = old; raised = none }) (close_answer_for (after_tests tests work) old raised)
  close_refused_first z n h = hands_back old raised (after-refused tests work e z) n h

  pub close_then_works : {a : CloseAnswer} → x ≡ value tt → a ≡ close_answer_for work old raised → a ≡ close_answer_for (after_tests tests work) old raised
  close_then_works z h = h ∙ sym (answered-with old raised (after-passed tests work e z))

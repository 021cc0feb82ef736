-- The answer with the test's number, from the one without.
use mathlib.Core.Path.{◌≡◌, refl, sym, ap, ◌∙◌}
use mathlib.Core.Bool.{true}
use mathlib.Core.List.{List}
use Prim.Native.Nat.{ℕ, ◌<◌}
use Rattle.definitions.specs.declared.Settings.{Settings}
use Rattle.definitions.specs.declared.Finality.{Finality}
use Rattle.definitions.specs.declared.Raised.{Raised}
use Rattle.definitions.specs.declared.CloseAnswer.{CloseAnswer}
use Rattle.definitions.specs.declared.JustificationAnswer.{JustificationAnswer}
use Rattle.definitions.specs.Checked.{Checked, value, refused, code_of, bind}
use Rattle.definitions.specs.Raised.{close_answer_for}
use Rattle.definitions.specs.Refusals.{after_tests, good_finality, justification_tests}
use Rattle.definitions_close.specs.FinalizingTest.{finalizing_test}
use Rattle.definitions_close.specs.Justification.{justification_answer_for, less_test}
use Rattle.laws.proofs.Checked.{number_not_zero}
use Rattle.laws.proofs.Tests.{in_order-value}
use Rattle.refusals.proofs.Laws.{good-settings}

with-test : {r a : JustificationAnswer} → less_test r ≡ less_test a → r.test ≡ a.test → r ≡ a
with-test e t = λ i. record { refusal = (e i).refusal; finality = (e i).finality; raised = (e i).raised; test = t i }

module _ (s : Settings) (m : Checked Finality) (old : Finality) (raised : Raised) {r : CloseAnswer} (h : r ≡ close_answer_for m old raised) where
  pub answer-refused : (r.refusal ≡ 0 → ⊥) → {a : JustificationAnswer} → less_test a ≡ r → a.test ≡ 0 → a ≡ justification_answer_for s m old raised
  unfolding finalizing_test
  answer-refused n {a} e t = with-test (e ∙ h) (t ∙ go m (ap (λ (k : CloseAnswer). k.refusal) h))
    where
      go : (m : Checked Finality) → r.refusal ≡ code_of m → 0 ≡ finalizing_test s old m
      go (value f) z = absurd (n z)
      go (refused p) z = refl

  pub answer-given : r.refusal ≡ 0 → {a : JustificationAnswer} → less_test a ≡ record { refusal = 0; finality = r.finality; raised = r.raised } → a.test ≡ finalizing_test s old (value r.finality) → a ≡ justification_answer_for s m old raised
  answer-given z {a} e t = with-test (e ∙ (λ i. record { refusal = sym z i; finality = r.finality; raised = r.raised }) ∙ h) (t ∙ go m h)
    where
      go : (m : Checked Finality) → r ≡ close_answer_for m old raised → finalizing_test s old (value r.finality) ≡ finalizing_test s old m
      go (value f) k = ap (λ (q : CloseAnswer). finalizing_test s old (value q.finality)) k
      go (refused p) k = absurd (number_not_zero p (sym (ap (λ (q : CloseAnswer). q.refusal) k) ∙ z))

-- the tests passed
pub record Passed (s : Settings) (old : Finality) : Type 0 where
  pub epoch : 0 < s.slots_per_epoch
  pub finality : good_finality old ≡ true

passed-by : (s : Settings) (roots : List ℕ) (old : Finality) (registry : List ℕ) → justification_tests s roots old registry ≡ value tt → Passed s old
unfolding justification_tests
passed-by s roots old registry z =
    let p = in_order-value _ _ _ z in
    record { epoch = (good-settings s (p.settings 0)).positive.slots_per_epoch; finality = p.recorded 0 }

pub tests-passed : (s : Settings) (roots : List ℕ) (old : Finality) (registry : List ℕ) (work : Checked Finality) {x : ℕ} → x ≡ code_of (after_tests (justification_tests s roots old registry) work) → x ≡ 0 → Passed s old
unfolding after_tests bind
tests-passed s roots old registry work e z = go (justification_tests s roots old registry) refl (sym e ∙ z)
  where
    go : (t : Checked (Unit {0})) → justification_tests s roots old registry ≡ t → code_of (bind t (λ _. work)) ≡ 0 → Passed s old
    go (value u) q k = passed-by s roots old registry q
    go (refused p) q k = absurd (number_not_zero p k)

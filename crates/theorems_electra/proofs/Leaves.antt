-- Demands 1 and 2 of the leaves that write nothing.
use mathlib.Core.Path.{◌≡◌, refl, sym, ap, ◌∙◌}
use mathlib.Core.List.{[], ◌∷◌}
use mathlib.Core.Logic.{inl, inr}
use Prim.Native.Nat.{ℕ}
use native.Mathlib.Omega.{arith}
use Rattle.definitions.specs.declared.PlainNumber.{PlainNumber}
use Rattle.definitions.specs.Checked.{number_of, Checked, value, refused, bind, code_of, settle}
use Rattle.definitions.specs.Plain.{plain_number}
use Rattle.definitions.specs.Refusals.{after_tests}
use Rattle.agreement.specs.Restored.{OneOf}
use Rattle.agreement.proofs.Restored.{low, one_left, tests-number}
use Rattle.agreement.proofs.Agrees.{Agrees, IsOverflow, value-agrees}
use Rattle.agreement_electra.proofs.Agrees.{limit, balance-limit, exit-churn}
use Rattle.definitions_electra.specs.declared.ExitChurnAnswer.{ExitChurnAnswer}
use Rattle.definitions_electra.specs.Refusals.{slot_registry_tests, credential_tests}
use Rattle.theorems_electra.specs.Leaves.{LeafCall, NumberCall, BalanceChurnLimitCalls, ActivationExitChurnLimitCalls, MaxEffectiveBalanceCalls, ExitChurnCalls}
use Rattle.theorems_electra.proofs.Numbers.{TestsNumber}

leaf-call : {X : Type 0} (tests : Checked (Unit {0})) (text : Checked X) (document : X) → TestsNumber tests → Agrees IsOverflow text document → {lent x : X} {n : ℕ} → n ≡ code_of (after_tests tests text) → x ≡ settle (after_tests tests text) lent → LeafCall tests text document lent x n
unfolding bind after_tests
leaf-call (refused q) text document t g {n = n} e h =
    let l : OneOf n (1 ∷ 2 ∷ 3 ∷ []) = rw e (t q refl) in
    let b = low n l in
    record {
      answers = e;
      number = inr (one_left n (1 ∷ 2 ∷ 3 ∷ []) (5 ∷ []) l);
      accepted = λ z. absurd (omega (arith, b, z));
      overflows = λ z. absurd (omega (arith, b, z));
      otherwise = λ _. h;
    }
leaf-call (value u) (refused p) document t g {n = n} e h =
    let w = g.only p refl in
    let five : n ≡ 5 = e ∙ ap number_of w in
    record {
      answers = e;
      number = inr (inr (inr (inr (inl five))));
      accepted = λ z. absurd (omega (arith, five, z));
      overflows = λ _. ap refused w;
      otherwise = λ _. h;
    }
leaf-call (value u) (value y) document t g {n = n} e h =
    let z : n ≡ 0 = e in
    record { answers = e; number = inl z; accepted = λ _. h ∙ sym (g.same y refl); overflows = λ f. absurd (omega (arith, z, f)); otherwise = λ f. absurd (f z) }

plain_code : (m : Checked ℕ) → (plain_number m).refusal ≡ code_of m
unfolding plain_number
plain_code (value x) = refl
plain_code (refused q) = refl

plain_value : (m : Checked ℕ) → (plain_number m).value ≡ settle m 0
unfolding plain_number
plain_value (value x) = refl
plain_value (refused q) = refl

number-call : (tests : Checked (Unit {0})) (text : Checked ℕ) (document : ℕ) → TestsNumber tests → Agrees IsOverflow text document → {answer : PlainNumber} → answer ≡ plain_number (after_tests tests text) → NumberCall tests text document answer
number-call tests text document t g h =
    leaf-call tests text document t g (ap (λ (x : PlainNumber). x.refusal) h ∙ plain_code (after_tests tests text)) (ap (λ (x : PlainNumber). x.value) h ∙ plain_value (after_tests tests text))

pub balance_churn_limit-calls : BalanceChurnLimitCalls
unfolding slot_registry_tests
balance_churn_limit-calls r state_slot registry answer h = number-call _ _ _ (λ q p. tests-number _ _ _ q p) (balance-limit r state_slot _) h

pub activation_exit_churn_limit-calls : ActivationExitChurnLimitCalls
unfolding slot_registry_tests
activation_exit_churn_limit-calls r state_slot registry answer h = number-call _ _ _ (λ q p. tests-number _ _ _ q p) (limit r state_slot _) h

pub max_effective_balance-calls : MaxEffectiveBalanceCalls
unfolding credential_tests
max_effective_balance-calls r compounding answer h = number-call _ _ _ (λ q p. tests-number _ _ _ q p) value-agrees h

pub exit_churn_calls : ExitChurnCalls
unfolding slot_registry_tests
exit_churn_calls r state_slot churn balance registry answer h =
    leaf-call _ _ _ (λ q p. tests-number _ _ _ q p) (exit-churn r state_slot _ churn balance) (ap (λ (x : ExitChurnAnswer). x.refusal) h) (ap (λ (x : ExitChurnAnswer). x.churn) h)

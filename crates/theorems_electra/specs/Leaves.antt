-- Demands 1 and 2 of the Electra leaves that write nothing.
use Rattle.std.specs.Prelude.{◌≡◌, List, ℕ}
use Rattle.definitions.specs.declared.PlainNumber.{PlainNumber}
use Rattle.definitions.specs.Record.{decode}
use Rattle.definitions.specs.Checked.{Checked, value, refused, code_of}
use Rattle.definitions.specs.declared.Refusal.TheVariants.{Overflow}
use Rattle.definitions.specs.Plain.{plain_number}
use Rattle.definitions.specs.Refusals.{after_tests}
use Rattle.agreement.specs.Restored.{OneOf}
use Rattle.definitions_electra.specs.declared.ElectraRules.{ElectraRules}
use Rattle.definitions_electra.specs.declared.ExitChurn.{ExitChurn}
use Rattle.definitions_electra.specs.declared.ExitChurnAnswer.{ExitChurnAnswer}
use Rattle.definitions_electra.specs.Refusals.{slot_registry_tests, credential_tests}
use Rattle.definitions_electra.specs.Calls.{exit_churn_answer}
use Rattle.definitions_electra.specs.Document.Electra.Helpers as document
use Rattle.definitions_electra.specs.Evaluated.Electra.Helpers as evaluated
use Rattle.theorems_electra.specs.Calls.{numbers}

-- x is what comes back beside the number n: the document's on 0, and else what was lent
pub record LeafCall {X : Type 0} (tests : Checked (Unit {0})) (text : Checked X) (document lent x : X) (n : ℕ) : Type 0 where
  pub answers : n ≡ code_of (after_tests tests text)
  pub number : OneOf n numbers
  pub accepted : n ≡ 0 → x ≡ document
  pub overflows : n ≡ 5 → text ≡ refused Overflow
  pub otherwise : (n ≡ 0 → ⊥) → x ≡ lent

abbrev pub NumberCall : Checked (Unit {0}) → Checked ℕ → ℕ → PlainNumber → Type 0
NumberCall tests text document r = LeafCall tests text document 0 r.value r.refusal

abbrev Answers : Checked (Unit {0}) → Checked ℕ → PlainNumber → Type 0
Answers tests text answer = answer ≡ plain_number (after_tests tests text)

abbrev pub BalanceChurnLimitCalls : Type 0
BalanceChurnLimitCalls =
    (r : ElectraRules) (state_slot : ℕ) (registry : List ℕ) (answer : PlainNumber) → let tests = slot_registry_tests r state_slot registry in
    let text = evaluated.get_balance_churn_limit r state_slot (decode registry) in
    Answers tests text answer → NumberCall tests text (document.get_balance_churn_limit r state_slot (decode registry)) answer

abbrev pub ActivationExitChurnLimitCalls : Type 0
ActivationExitChurnLimitCalls =
    (r : ElectraRules) (state_slot : ℕ) (registry : List ℕ) (answer : PlainNumber) → let tests = slot_registry_tests r state_slot registry in
    let text = evaluated.get_activation_exit_churn_limit r state_slot (decode registry) in
    Answers tests text answer → NumberCall tests text (document.get_activation_exit_churn_limit r state_slot (decode registry)) answer

abbrev pub MaxEffectiveBalanceCalls : Type 0
MaxEffectiveBalanceCalls =
    (r : ElectraRules) (compounding : ℕ) (answer : PlainNumber) → let most = document.get_max_effective_balance r.electra compounding in
    Answers (credential_tests r compounding) (value most) answer → NumberCall (credential_tests r compounding) (value most) most answer

abbrev pub ExitChurnCalls : Type 0
ExitChurnCalls =
    (r : ElectraRules) (state_slot : ℕ) (churn : ExitChurn) (balance : ℕ) (registry : List ℕ) (answer : ExitChurnAnswer)
    → let tests = slot_registry_tests r state_slot registry in
    let text = evaluated.compute_exit_epoch_and_update_churn r state_slot (decode registry) churn balance in
    answer ≡ exit_churn_answer (after_tests tests text) churn
    → LeafCall tests text (document.compute_exit_epoch_and_update_churn r state_slot (decode registry) churn balance) churn answer.churn answer.refusal

-- The steps on the validators of the opening, at the front of the closing lists, and what the close answers where nothing is refused.
use Rattle.std.specs.Prelude.{◌≡◌, true, List, ◌++◌, ℕ, ◌*◌, ◌/◌, ◌≤◌, length, drop}
use Rattle.definitions.specs.declared.Finality.{Finality}
use Rattle.definitions.specs.Checked.{Checked, value}
use Rattle.definitions.specs.Refusals.{good_finality, justification_tests}
use Rattle.definitions_electra.specs.declared.ElectraRules.{ElectraRules}
use Rattle.definitions_electra.specs.Record.{ElectraState}
use Rattle.definitions_electra.specs.Refusals.{good_electra}
use Rattle.definitions_electra_close.specs.declared.ElectraAnswer.{ElectraAnswer}
use Rattle.electra_deposits.specs.Room.{keyed}
use Rattle.electra_consolidations.specs.Consolidations.{placed}
use Rattle.electra_steps.specs.Last.{under}
use Rattle.electra_front.specs.declared.Front.{Front}
use Rattle.electra_front.specs.Front.{FrontRan}
use Rattle.electra_close.specs.declared.Counts.{Counts}

-- as the tests leave what is lent
pub record StepsLent (r : ElectraRules) (f : Finality) (registry compounding roots deposits pairs closing_registry amounts places : List ℕ) : Type 0 where
  pub good : good_electra r ≡ true
  pub finality : good_finality f ≡ true
  pub justification : justification_tests (under r) roots f registry ≡ value tt
  pub tens : length registry ≡ 10 * length compounding
  pub fives : length deposits ≡ 5 * (length deposits / 5)
  pub keys : keyed (length compounding) deposits ≡ true
  pub twos : length pairs ≡ 2 * (length pairs / 2)
  pub within : placed (length compounding) pairs ≡ true
  pub room : 10 * length compounding ≤ length closing_registry
  pub rows : 12 * length compounding ≤ length amounts
  pub table : length places ≡ length deposits / 5

-- in front of what stands behind
pub record StepsRan (r : ElectraRules) (st : ElectraState) (n : ℕ) (deposits pairs registry₀ registry₁ amounts₀ amounts₁ : List ℕ) (answer : Checked Front) : Type 0 where
  pub front : List ℕ
  pub rows : List ℕ
  pub long : length front ≡ 10 * n
  pub wide : length rows ≡ 12 * n
  pub registry : registry₁ ≡ front ++ drop (10 * n) registry₀
  pub amounts : amounts₁ ≡ rows ++ drop (12 * n) amounts₀
  pub ran : FrontRan r st n deposits pairs front rows answer

abbrev pub closed_answer : Front → Counts → ElectraAnswer
closed_answer f c =
    record {
      refusal = 0;
      finality = f.finality;
      raised = f.raised;
      test = f.test;
      validators = c.validators;
      deposits = c.deposits;
      consolidations = c.consolidations;
      deposit_balance_to_consume = f.left;
      churn = f.churn;
    }

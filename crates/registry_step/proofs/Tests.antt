-- The tests of the registry step as the code makes them: 1, 2 and 3 of slot and finalized epoch, then 3 of the entries and 8 from the survey.
-- `x` is what the first tests answered.
use mathlib.Core.Path.{◌≡◌, refl, sym, ◌∙◌}
use mathlib.Core.Bool.{true}
use mathlib.Core.List.{List}
use Prim.Native.Nat.{ℕ, ◌*◌, ◌/◌, ◌^◌, ◌≤◌, ◌<◌}
use borrow.Author.Tests.{leb-true, eqb-true}
use lib.ListN.{length}
use Rattle.definitions.specs.declared.Settings.{Settings}
use Rattle.definitions.specs.declared.ActivationLimit.{ActivationLimit}
use Rattle.definitions.specs.declared.ExitQueue.{ExitQueue}
use Rattle.definitions.specs.declared.QueueAnswer.{QueueAnswer}
use Rattle.definitions.specs.declared.Refusal.{Refusal}
use Rattle.definitions.specs.Record.{Validator, encode, decode}
use Rattle.definitions.specs.Checked.{Checked, value, refused, number_of}
use Rattle.definitions.specs.Refusals.{good_settings}
use Rattle.definitions.specs.RegisterOrder.{registry_to_tests, limited_updates_to}
use Rattle.definitions.specs.ExitQueue.{queue_of}
use Rattle.definitions_close.specs.QueueCalls.{registry_to_queue_tests, QueueCloses}
use Rattle.laws.proofs.Tests.{in_order-value}
use Rattle.refusals.proofs.Laws.{good-settings, PositiveDivisors, registry-shaped, small}
use Rattle.laws.proofs.Checked.{number_not_zero}
use Rattle.refusals.proofs.buffers.Closes.{closes-refused}
use Rattle.exit_queue.proofs.QueueOf.{tracks-is}
use Rattle.validator_exit.specs.Found.{found_tests}
use Rattle.validator_exit.proofs.queue_tests.Queue.{queue-passed}
use Rattle.validator_exit.proofs.queue_tests.Found.{early-refused, found-code}
use Rattle.validator_exit.proofs.queue_tests.Closes.{queue-closes}
use Rattle.survey.specs.declared.Findings.{Findings}
use Rattle.survey.specs.Found.{Finds}
use Rattle.registry_step.specs.First.{first_tests}

-- what the first tests give once passed
pub record StepPassed (stop : ℕ) (s : Settings) (state_slot finalized_epoch : ℕ) (opening closing : List ℕ) : Type 0 where
  pub good : good_settings s ≡ true
  pub positive : PositiveDivisors s
  pub slot : state_slot < 2 ^ 48
  pub finalized : finalized_epoch < 2 ^ 48
  pub long : length opening ≡ 10 * (length opening / 10)
  pub same : length closing ≡ length opening
  pub stops : stop ≤ length opening / 10

module _ (by : ActivationLimit) (stop : ℕ) (s : Settings) (state_slot finalized_epoch : ℕ) (queue : ExitQueue) (opening closing : List ℕ) where
  abbrev first : Checked (Unit {0})
  first = first_tests stop s state_slot finalized_epoch opening closing

  abbrev tests : Checked (Unit {0})
  tests = registry_to_queue_tests stop s state_slot finalized_epoch queue opening closing

  abbrev step : Checked (List Validator)
  step = limited_updates_to by stop s state_slot finalized_epoch (decode opening)

  -- refused by p, with nothing written
  pub turned-away : {p : Refusal} {n : ℕ} → tests ≡ refused p → n ≡ number_of p → QueueCloses tests step queue opening closing closing (record { refusal = n; queue = queue })
  turned-away {p} {n} t k = queue-closes tests step (rw k (closes-refused encode tests refl step t)) (λ y. absurd (number_not_zero p (sym k ∙ y))) (λ _. refl)

  module _ {x : Checked (Unit {0})} (e : x ≡ first) where
    pub step-refused : {p : Refusal} {n : ℕ} → x ≡ refused p → n ≡ number_of p → QueueCloses tests step queue opening closing closing (record { refusal = n; queue = queue })
    unfolding registry_to_tests
    step-refused z k = turned-away (early-refused _ _ _ queue opening e z) k

    module _ (z : x ≡ value tt) where
      pub step-passed : StepPassed stop s state_slot finalized_epoch opening closing
      step-passed =
          let p = in_order-value _ _ _ (sym e ∙ z) in
          record {
            good = p.settings 0;
            positive = (good-settings s (p.settings 0)).positive;
            slot = small state_slot (p.recorded 0);
            finalized = small finalized_epoch (p.recorded 1);
            long = (registry-shaped opening (p.shaped 1)).long;
            same = eqb-true _ _ (p.shaped 2);
            stops = leb-true stop (length opening / 10) (p.shaped 3);
          }

      pub found-tests : {current previous : ℕ} {kept : List ℕ} {found : Findings} {t : Checked (Unit {0})} → Finds s current previous opening kept found → t ≡ found_tests found.tested queue found.queue → t ≡ tests
      unfolding registry_to_tests
      found-tests f h = found-code _ _ _ queue opening e z f.tested (λ _. tracks-is f.queue) h

  module _ {x : Checked (Unit {0})} (e : x ≡ tests) (z : x ≡ value tt) where
    pub true_pair : queue ≡ queue_of (decode opening)
    true_pair = (queue-passed (registry_to_tests stop s state_slot finalized_epoch opening closing) queue opening e z).queue

    -- the step ran after all tests had passed
    pub step-ran : {after : List ℕ} {r : QueueAnswer} → QueueCloses (value tt) step queue opening closing after r → QueueCloses tests step queue opening closing after r
    step-ran h = rw (sym e ∙ z) h

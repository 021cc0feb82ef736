-- The registry step: its tests as the code makes them, by the settings, the rules and the limit. `x` is what they answered.
use mathlib.Core.Path.{◌≡◌, refl, sym, ap, ◌∙◌}
use mathlib.Core.Bool.{Bool, true}
use mathlib.Core.List.{List, [], ◌∷◌}
use Prim.Native.Nat.{ℕ, ◌/◌}
use native.Mathlib.Omega.{arith}
use borrow.Author.Tests.{le-leb}
use lib.Dec.{leb}
use lib.ListN.{length}
use Rattle.definitions.specs.declared.ExitQueue.{ExitQueue}
use Rattle.definitions.specs.declared.QueueAnswer.{QueueAnswer}
use Rattle.definitions.specs.Lists.{every}
use Rattle.definitions.specs.Record.{encode, decode}
use Rattle.definitions.specs.declared.Refusal.{Refusal}
use Rattle.definitions.specs.Checked.{Checked, value, refused, number_of}
use Rattle.definitions.specs.Refusals.{in_order, is_small, settings_shaped, registry_shaped, same_length, good_settings}
use Rattle.definitions.specs.Rules.{rules_shaped, good_bellatrix, good_rules}
use Rattle.definitions.specs.RegisterOrder.{limited_updates_to, registry_to_tests}
use Rattle.definitions_close.specs.QueueCalls.{registry_to_queue_tests, QueueCloses}
use Rattle.definitions_deneb.specs.declared.DenebRules.{DenebRules}
use Rattle.definitions_deneb.specs.Calls.{under_bellatrix, limit_of, registry_tests, registry_work}
use Rattle.laws.proofs.ActivationQueue.Stopped.{stopped}
use Rattle.laws.proofs.Checked.{number_not_zero}
use Rattle.laws.proofs.Encode.{length-decode}
use Rattle.laws.proofs.Tests.{InOrder, in_order-value, both, and_true}
use Rattle.refusals.specs.Refusal.{rules_refusal, limit_refusal}
use Rattle.refusals.proofs.Laws.{registry-shaped}
use Rattle.refusals.proofs.buffers.Closes.{closes-refused}
use Rattle.refusals.proofs.rules.Tests.{rules-tested, limit-tested}
use Rattle.registry_step.specs.First.{first_tests}
use Rattle.validator_exit.proofs.queue_tests.Closes.{queue-closes}
use Rattle.validator_exit.proofs.queue_tests.Found.{early-refused}

module _ (r : DenebRules) (state_slot finalized_epoch : ℕ) (queue : ExitQueue) (opening closing : List ℕ) where
  abbrev n : ℕ
  n = length opening / 10

  abbrev shapes : List Bool
  shapes = settings_shaped r.settings ∷ registry_shaped opening ∷ same_length opening closing ∷ []

  abbrev setting_tests : List Bool
  setting_tests = good_rules (under_bellatrix r) ∷ is_small r.max_per_epoch_activation_churn_limit ∷ []

  abbrev slots : List Bool
  slots = is_small state_slot ∷ is_small finalized_epoch ∷ []

  -- all but those of the entries and the pair
  abbrev pub first : Checked (Unit {0})
  first = in_order shapes setting_tests slots

  -- fork 1 is one, and no stop is behind the last
  same-shapes : in_order (rules_shaped (under_bellatrix r) ∷ registry_shaped opening ∷ same_length opening closing ∷ leb n n ∷ []) setting_tests slots ≡ in_order shapes setting_tests slots
  unfolding rules_shaped in_order every
  same-shapes = rw (and_true (settings_shaped r.settings), le-leb n n (omega arith))

  pub first-tested : {x y z : Checked (Unit {0})} → x ≡ first_tests n r.settings state_slot finalized_epoch opening closing → y ≡ rules_refusal (under_bellatrix r) x → z ≡ limit_refusal (limit_of r) y → z ≡ first
  first-tested e f g =
      limit-tested (limit_of r) _ (good_rules (under_bellatrix r) ∷ []) slots g (rules-tested (under_bellatrix r) _ [] slots f e) ∙ same-shapes

  module _ {x : Checked (Unit {0})} (e : x ≡ first) where
    pub step-refused : {p : Refusal} {k : ℕ} → x ≡ refused p → k ≡ number_of p → QueueCloses (registry_tests r state_slot finalized_epoch queue opening closing) (registry_work r state_slot finalized_epoch opening) queue opening closing closing (record { refusal = k; queue = queue })
    unfolding registry_tests
    step-refused {p} z number =
        let tests = registry_tests r state_slot finalized_epoch queue opening closing in
        let work = registry_work r state_slot finalized_epoch opening in
        queue-closes tests work (rw number (closes-refused encode tests refl work (early-refused shapes setting_tests slots queue opening e z))) (λ n. absurd (number_not_zero p (sym number ∙ n))) (λ _. refl)

    module _ (z : x ≡ value tt) where
      passed : InOrder shapes setting_tests slots
      passed = in_order-value shapes setting_tests slots (sym e ∙ z)

      good : good_settings r.settings ≡ true
      unfolding good_rules
      good = (both (good_settings r.settings) (good_bellatrix r.bellatrix) (passed.settings 0)).0

      pub first-passed : first_tests n r.settings state_slot finalized_epoch opening closing ≡ value tt
      unfolding in_order every
      first-passed = rw (passed.shaped 0, passed.shaped 1, passed.shaped 2, le-leb n n (omega arith), good, passed.recorded 0, passed.recorded 1)

      same_tests : registry_to_queue_tests n r.settings state_slot finalized_epoch queue opening closing ≡ registry_tests r state_slot finalized_epoch queue opening closing
      unfolding registry_tests registry_to_tests in_order every
      same_tests = rw (passed.shaped 0, passed.shaped 1, passed.shaped 2, le-leb n n (omega arith), good, passed.settings 0, passed.settings 1)

      same-work : limited_updates_to (limit_of r) n r.settings state_slot finalized_epoch (decode opening) ≡ registry_work r state_slot finalized_epoch opening
      same-work =
          ap (λ (k : ℕ). limited_updates_to (limit_of r) k r.settings state_slot finalized_epoch (decode opening)) (sym (length-decode n opening (registry-shaped opening (passed.shaped 1)).long))
          ∙ (stopped (limit_of r) r.settings state_slot finalized_epoch (decode opening)).whole

      pub step-done : {after : List ℕ} {answer : QueueAnswer} → QueueCloses (registry_to_queue_tests n r.settings state_slot finalized_epoch queue opening closing) (limited_updates_to (limit_of r) n r.settings state_slot finalized_epoch (decode opening)) queue opening closing after answer → QueueCloses (registry_tests r state_slot finalized_epoch queue opening closing) (registry_work r state_slot finalized_epoch opening) queue opening closing after answer
      step-done h = rw (same_tests, same-work) at h

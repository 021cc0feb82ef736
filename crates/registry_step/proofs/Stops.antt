-- The step is the case of stop N, with the pair too.
use mathlib.Core.Path.{◌≡◌, refl, sym, ap, ◌∙◌}
use mathlib.Core.List.{List}
use Prim.Native.Nat.{ℕ, ◌/◌}
use native.Mathlib.Omega.{arith}
use lib.ListN.{length}
use Rattle.definitions.specs.declared.Settings.{Settings}
use Rattle.definitions.specs.declared.ActivationLimit.TheVariants.{Churn}
use Rattle.definitions.specs.declared.ExitQueue.{ExitQueue}
use Rattle.definitions.specs.declared.QueueAnswer.{QueueAnswer}
use Rattle.definitions.specs.Record.{Validator, decode}
use Rattle.definitions.specs.Checked.{Checked, value, refused, bind}
use Rattle.definitions.specs.Refusals.{after_tests, closing_buffer, registry_tests}
use Rattle.definitions.specs.RegisterOrder.{registry_updates_to}
use Rattle.definitions.specs.Rust.Phase0.EpochProcessing.{process_registry_updates}
use Rattle.definitions_close.specs.QueueCalls.{registry_to_queue_tests, registry_queue_tests, QueueCloses}
use Rattle.laws.proofs.Encode.{length-decode}
use Rattle.leaf_refusals.proofs.registry_refusals.Passed.{within, registry-passed}
use Rattle.laws.proofs.ActivationQueue.Stopped.{stopped}
use Rattle.validator_exit.proofs.queue_tests.Queue.{queue-passed}

-- the work shows only where the tests passed
other-work : (tests : Checked (Unit {0})) (m n : Checked (List Validator)) → (tests ≡ value tt → m ≡ n) → {queue : ExitQueue} {opening closing after : List ℕ} {r : QueueAnswer} → QueueCloses tests m queue opening closing after r → QueueCloses tests n queue opening closing after r
unfolding after_tests bind closing_buffer
other-work (refused q) m n e h = record { answer = h.answer; buffer = h.buffer }
other-work (value u) m n e h = rw (e refl) at h

module _ (s : Settings) (state_slot finalized_epoch : ℕ) (queue : ExitQueue) (opening closing : List ℕ) where
  abbrev n : ℕ
  n = length opening / 10

  whole : registry_queue_tests s state_slot finalized_epoch queue opening closing ≡ value tt → registry_updates_to n s state_slot finalized_epoch (decode opening) ≡ process_registry_updates s state_slot finalized_epoch (decode opening)
  whole t =
      let q = queue-passed (registry_tests s state_slot finalized_epoch opening closing) queue opening refl t in
      let p = registry-passed s state_slot finalized_epoch opening closing refl q.before in
      ap (λ (k : ℕ). registry_updates_to k s state_slot finalized_epoch (decode opening)) (sym (length-decode n opening p.opened.shape.long))
      ∙ (stopped Churn s state_slot finalized_epoch (decode opening)).whole

  pub closes-whole : {after : List ℕ} {r : QueueAnswer} → QueueCloses (registry_to_queue_tests n s state_slot finalized_epoch queue opening closing) (registry_updates_to n s state_slot finalized_epoch (decode opening)) queue opening closing after r → QueueCloses (registry_queue_tests s state_slot finalized_epoch queue opening closing) (process_registry_updates s state_slot finalized_epoch (decode opening)) queue opening closing after r
  closes-whole h =
      other-work (registry_queue_tests s state_slot finalized_epoch queue opening closing) (registry_updates_to n s state_slot finalized_epoch (decode opening)) (process_registry_updates s state_slot finalized_epoch (decode opening)) whole
      (rw (within n s state_slot finalized_epoch opening closing (omega arith)) at h)

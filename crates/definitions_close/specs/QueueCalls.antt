-- The other calls that are lent the exit queue's pair (02, R-8), besides close and files: the registry step, and the exit of one validator.
-- And the call that works the pair out.
use Rattle.std.specs.Prelude.{◌≡◌, List, [], ◌∷◌, ℕ}
use Rattle.definitions.specs.declared.Settings.{Settings}
use Rattle.definitions.specs.declared.ExitQueue.{ExitQueue}
use Rattle.definitions.specs.declared.QueueAnswer.{QueueAnswer}
use Rattle.definitions.specs.Record.{Validator, encode, decode}
use Rattle.definitions.specs.Checked.{Checked, value, refused, bind, code_of}
use Rattle.definitions.specs.Refusals.{in_order, registry_shaped, good_registry, registry_tests, after_tests, closing_buffer}
use Rattle.definitions.specs.LeafRefusals.{exit_tests}
use Rattle.definitions.specs.RegisterOrder.{registry_to_tests}
use Rattle.definitions.specs.ExitQueue.{queue_of, queue_test}

-- "Turned away: 8, where a stored pair is not that of the register; tested after 3, nothing written."
unfoldable pub then_queue : Checked (Unit {0}) → ExitQueue → List ℕ → Checked (Unit {0})
then_queue tests queue registry = bind tests (λ _. queue_test queue (decode registry))

-- process_registry_updates, with a stop and without
abbrev pub registry_to_queue_tests : ℕ → Settings → ℕ → ℕ → ExitQueue → List ℕ → List ℕ → Checked (Unit {0})
registry_to_queue_tests stop s state_slot finalized_epoch queue opening closing =
    then_queue (registry_to_tests stop s state_slot finalized_epoch opening closing) queue opening

abbrev pub registry_queue_tests : Settings → ℕ → ℕ → ExitQueue → List ℕ → List ℕ → Checked (Unit {0})
registry_queue_tests s state_slot finalized_epoch queue opening closing =
    then_queue (registry_tests s state_slot finalized_epoch opening closing) queue opening

-- initiate_validator_exit
abbrev pub exit_queue_tests : Settings → ℕ → ℕ → ExitQueue → List ℕ → Checked (Unit {0})
exit_queue_tests s state_slot index queue registry = then_queue (exit_tests s state_slot index registry) queue registry

-- "It is true of every record that a call .. hands back unrefused"; on refusal the pair `before`
unfoldable pub queue_after : Checked (List Validator) → ExitQueue → ExitQueue
queue_after (value vs) before = queue_of vs
queue_after (refused r) before = before

abbrev pub queue_answer : Checked (List Validator) → ExitQueue → QueueAnswer
queue_answer m before = record { refusal = code_of m; queue = queue_after m before }

-- a call that tests, works on a register and is lent the pair: the answer, and what the buffer holds `after`
pub record QueueCloses (tests : Checked (Unit {0})) (work : Checked (List Validator)) (queue : ExitQueue) (opening closing after : List ℕ)
    (r : QueueAnswer) : Type 0 where
  pub answer : r ≡ queue_answer (after_tests tests work) queue
  pub buffer : after ≡ closing_buffer encode tests work opening closing

-- the pair of a register, which is lent alone
unfoldable pub found_queue : List ℕ → QueueAnswer
found_queue registry =
    let tests = in_order (registry_shaped registry ∷ []) [] (good_registry registry ∷ []) in
    queue_answer (after_tests tests (value (decode registry))) (record { last_epoch = 0; number = 0 })

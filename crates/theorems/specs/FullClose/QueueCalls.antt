-- The registry step and the exit of one validator, which are lent the exit queue's pair (02, R-8).
use Rattle.std.specs.Prelude.{◌≡◌, ◌⊎◌, List, [], ◌∷◌, ℕ}
use Rattle.definitions.specs.declared.Settings.{Settings}
use Rattle.definitions.specs.declared.ExitQueue.{ExitQueue}
use Rattle.definitions.specs.declared.QueueAnswer.{QueueAnswer}
use Rattle.definitions.specs.Record.{BeaconState, encode, decode}
use Rattle.definitions.specs.Checked.{Checked, value}
use Rattle.definitions.specs.Refusals.{registry_tests}
use Rattle.definitions.specs.LeafRefusals.{exit_tests}
use Rattle.definitions.specs.RegisterOrder.{registry_updates_to, registry_to_tests}
use Rattle.definitions.specs.ExitQueue.{queue_of}
use Rattle.definitions.specs.Rust.Phase0.Helpers.{initiate_validator_exit}
use Rattle.definitions.specs.Rust.Phase0.EpochProcessing.{process_registry_updates}
use Rattle.definitions.specs.Close.{registry_step, finalized_epoch_of}
use Rattle.definitions_close.specs.QueueCalls.{registry_to_queue_tests, registry_queue_tests, QueueCloses}
use Rattle.agreement.specs.Agreement.{document_step}
use Rattle.definitions.specs.Closes.{Closes}
use Rattle.theorems.specs.Completeness.Calls.{registry_of, stopped_of, StepCall}

-- "It is true of every record that a call accepts, or hands back unrefused"; on refusal the pair handed in comes back
pub record TruePair (queue : ExitQueue) (opening after : List ℕ) (r : QueueAnswer) : Type 0 where
  pub accepts : r.refusal ≡ 0 → queue ≡ queue_of (decode opening)
  pub hands_back : r.refusal ≡ 0 → r.queue ≡ queue_of (decode after)
  pub stays : (r.refusal ≡ 0 → ⊥) → r.queue ≡ queue

-- "Turned away: 8, where a stored pair is not that of the register; tested after 3, nothing written."
pub record WrongPair (tests : Checked (Unit {0})) (queue : ExitQueue) (opening closing after : List ℕ) (r : QueueAnswer) : Type 0 where
  pub refusal : r.refusal ≡ 8
  pub others : tests ≡ value tt
  pub wrong : queue ≡ queue_of (decode opening) → ⊥
  pub untouched : after ≡ closing

-- `tests` are those before 8. A call that is not refused under 8 is what it would be without the pair: `Rest` of its number.
pub record QueueCall (Rest : ℕ → Type 0) (tests : Checked (Unit {0})) (queue : ExitQueue) (opening closing after : List ℕ) (r : QueueAnswer) : Type 0 where
  pub pair : TruePair queue opening after r
  pub rest : WrongPair tests queue opening closing after r ⊎ Rest r.refusal

pub record QueueCalls (s : Settings) (st : BeaconState) (queue : ExitQueue) (opening closing after : List ℕ) (r : QueueAnswer) : Type 0 where
  -- demand 2 of the registry step, with a stop and without; `st` is any state that has what the call is lent
  pub registry : decode opening ≡ st.validators → let slot = st.finality.slot in let tests = registry_tests s slot (finalized_epoch_of st) opening closing in
      QueueCloses (registry_queue_tests s slot (finalized_epoch_of st) queue opening closing) (process_registry_updates s slot (finalized_epoch_of st) (decode opening)) queue opening closing after r
      → QueueCall (StepCall s (document_step s st registry_step) st registry_step registry_of (0 ∷ 1 ∷ 2 ∷ 3 ∷ 5 ∷ []) tests opening closing after) tests queue opening closing after r
  pub registry_to : (stop : ℕ) → decode opening ≡ st.validators → let slot = st.finality.slot in let tests = registry_to_tests stop s slot (finalized_epoch_of st) opening closing in
      QueueCloses (registry_to_queue_tests stop s slot (finalized_epoch_of st) queue opening closing) (registry_updates_to stop s slot (finalized_epoch_of st) (decode opening)) queue opening closing after r
      → QueueCall (StepCall s (document_step s st registry_step) st registry_step (stopped_of stop st.validators) (0 ∷ 1 ∷ 2 ∷ 3 ∷ 5 ∷ []) tests opening closing after) tests queue opening closing after r

-- the exit of one validator
abbrev pub ExitCall : Settings → ℕ → ℕ → ExitQueue → List ℕ → List ℕ → QueueAnswer → Type 0
ExitCall s slot index queue registry after r =
    let tests = exit_tests s slot index registry in let exit = initiate_validator_exit s slot (decode registry) index in
    QueueCall (Closes encode tests exit registry registry after) tests queue registry registry after r

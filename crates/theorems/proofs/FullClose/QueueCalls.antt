-- A call that is lent the pair: refused under 8, or what it would be without.
use mathlib.Core.Path.{◌≡◌, refl, sym, ap, ◌∙◌}
use mathlib.Core.Logic.{inl, inr}
use mathlib.Core.Bool.{Bool, true, false, cond, false≢true}
use mathlib.Core.List.{List}
use Prim.Native.Nat.{ℕ}
use Rattle.definitions.specs.declared.Settings.{Settings}
use Rattle.definitions.specs.declared.ExitQueue.{ExitQueue}
use Rattle.definitions.specs.declared.QueueAnswer.{QueueAnswer}
use Rattle.definitions.specs.Record.{Validator, BeaconState, encode, decode}
use Rattle.definitions.specs.Checked.{Checked, value, refused, bind}
use Rattle.definitions.specs.declared.Refusal.{Refusal}
use Rattle.definitions.specs.declared.Refusal.TheVariants.{WrongQueue}
use Rattle.definitions.specs.Refusals.{after_tests, closing_buffer}
use Rattle.definitions.specs.LeafRefusals.{exit_tests}
use Rattle.definitions.specs.ExitQueue.{queue_of, is_queue_of, queue_test}
use Rattle.definitions.specs.Rust.Phase0.Helpers.{initiate_validator_exit}
use Rattle.definitions_close.specs.QueueCalls.{then_queue, exit_queue_tests, queue_after, QueueCloses}
use Rattle.laws.proofs.Checked.{number_not_zero}
use Rattle.laws.proofs.Encode.{decode-encode}
use Rattle.definitions.specs.Closes.{Closes}
use Rattle.validator_exit.proofs.queue_tests.Closes.{closes-of}
use Rattle.theorems.proofs.Completeness.StepCalls.{step-calls, stopped-calls}
use Rattle.theorems.specs.FullClose.QueueCalls.{TruePair, WrongPair, QueueCall, QueueCalls, ExitCall}
use Rattle.laws.proofs.Queue.{is-queue, is_its_own}

-- once all tests have passed
worked : (work : Checked (List Validator)) {queue : ExitQueue} {opening closing after : List ℕ} {r : QueueAnswer} → queue ≡ queue_of (decode opening) → QueueCloses (value tt) work queue opening closing after r → TruePair queue opening after r
unfolding after_tests bind closing_buffer queue_after
worked (value vs) {after = after} q h =
    let back : vs ≡ decode after = sym (ap decode h.buffer ∙ decode-encode vs) in
    record {
      accepts = λ _. q;
      hands_back = λ _. ap (λ (a : QueueAnswer). a.queue) h.answer ∙ ap queue_of back;
      stays = λ z. absurd (z (ap (λ (a : QueueAnswer). a.refusal) h.answer));
    }
worked (refused p) q h =
    let n = ap (λ (a : QueueAnswer). a.refusal) h.answer in
    record {
      accepts = λ _. q;
      hands_back = λ z. absurd (number_not_zero p (sym n ∙ z));
      stays = λ _. ap (λ (a : QueueAnswer). a.queue) h.answer;
    }

-- a test refused, under p
turned : (p : Refusal) (work : Checked (List Validator)) {queue : ExitQueue} {opening closing after : List ℕ} {r : QueueAnswer} → QueueCloses (refused p) work queue opening closing after r → TruePair queue opening after r
unfolding after_tests bind closing_buffer queue_after
turned p work h =
    let n = ap (λ (a : QueueAnswer). a.refusal) h.answer in
    record {
      accepts = λ z. absurd (number_not_zero p (sym n ∙ z));
      hands_back = λ z. absurd (number_not_zero p (sym n ∙ z));
      stays = λ _. ap (λ (a : QueueAnswer). a.queue) h.answer;
    }

wrong-pair : (tests : Checked (Unit {0})) (work : Checked (List Validator)) {queue : ExitQueue} {opening closing after : List ℕ} {r : QueueAnswer} → tests ≡ value tt → is_queue_of queue (decode opening) ≡ false → QueueCloses (refused WrongQueue) work queue opening closing after r → WrongPair tests queue opening closing after r
unfolding after_tests bind closing_buffer
wrong-pair tests work {queue} {opening} t f h =
    record {
      refusal = ap (λ (a : QueueAnswer). a.refusal) h.answer;
      others = t;
      wrong = λ e. absurd (false≢true (sym f ∙ ap (λ (q : ExitQueue). is_queue_of q (decode opening)) e ∙ is_its_own (decode opening)));
      untouched = h.buffer;
    }

pub with-queue : (tests : Checked (Unit {0})) (work : Checked (List Validator)) {queue : ExitQueue} {opening closing after : List ℕ} {r : QueueAnswer} {Rest : ℕ → Type 0} → (Closes encode tests work opening closing after r.refusal → Rest r.refusal) → QueueCloses (then_queue tests queue opening) work queue opening closing after r → QueueCall Rest tests queue opening closing after r
unfolding then_queue bind queue_test
with-queue (refused p) work k h = record { pair = turned p work h; rest = inr (k (closes-of h)) }
with-queue (value u) work {queue} {opening} {closing} {after} {r} {Rest} k h = go (is_queue_of queue (decode opening)) refl h
  where
    test : Bool → Checked (Unit {0})
    test b = cond b (value tt) (refused WrongQueue)

    go : (b : Bool) → is_queue_of queue (decode opening) ≡ b → QueueCloses (test b) work queue opening closing after r → QueueCall Rest (value u) queue opening closing after r
    go true f h = record { pair = worked work (is-queue queue (decode opening) f) h; rest = inr (k (closes-of h)) }
    go false f h = record { pair = turned WrongQueue work h; rest = inl (wrong-pair (value u) work refl f h) }

pub queue-calls : (s : Settings) (st : BeaconState) (queue : ExitQueue) (opening closing after : List ℕ) (r : QueueAnswer) → QueueCalls s st queue opening closing after r
queue-calls s st queue opening closing after r =
    record {
      registry = λ e h. with-queue _ _ (λ c. (step-calls s st opening closing after r.refusal).registry e c) h;
      registry_to = λ stop e h. with-queue _ _ (λ c. stopped-calls stop s st opening closing after r.refusal e c) h;
    }

pub exit-call : (s : Settings) (slot index : ℕ) (queue : ExitQueue) (registry after : List ℕ) (r : QueueAnswer) → QueueCloses (exit_queue_tests s slot index queue registry) (initiate_validator_exit s slot (decode registry) index) queue registry registry after r → ExitCall s slot index queue registry after r
exit-call s slot index queue registry after r h = with-queue (exit_tests s slot index registry) (initiate_validator_exit s slot (decode registry) index) (λ c. c) h

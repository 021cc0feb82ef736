-- A call that is lent the pair promises what it would without, and the pair: the registry's where it is not refused, else the one handed in.
use mathlib.Core.Path.{◌≡◌, refl, sym, ap, ◌∙◌}
use mathlib.Core.List.{List}
use Prim.Native.Nat.{ℕ}
use Rattle.definitions.specs.declared.ExitQueue.{ExitQueue}
use Rattle.definitions.specs.declared.QueueAnswer.{QueueAnswer}
use Rattle.definitions.specs.Record.{Validator, encode, decode}
use Rattle.definitions.specs.declared.Refusal.{Refusal}
use Rattle.definitions.specs.Checked.{Checked, value, refused, done, bind, code_of, number_of}
use Rattle.definitions.specs.Refusals.{after_tests, closing_buffer}
use Rattle.definitions.specs.ExitQueue.{queue_of}
use Rattle.definitions_close.specs.QueueCalls.{queue_after, QueueCloses}
use Rattle.laws.proofs.Checked.{number_not_zero}
use Rattle.laws.proofs.Encode.{decode-encode}
use Rattle.definitions.specs.Closes.{Closes}
use Rattle.exit_queue.specs.Exits.{Leaves}
use Rattle.validator_exit.specs.Exits.{LeavesPair}

pub queue-closes : (tests : Checked (Unit {0})) (work : Checked (List Validator)) {queue : ExitQueue} {opening closing after : List ℕ} {r : QueueAnswer} → Closes encode tests work opening closing after r.refusal → (r.refusal ≡ 0 → r.queue ≡ queue_of (decode after)) → ((r.refusal ≡ 0 → ⊥) → r.queue ≡ queue) → QueueCloses tests work queue opening closing after r
unfolding after_tests bind closing_buffer queue_after
queue-closes (refused p) work h is stays = record { answer = λ i. record { refusal = h.number i; queue = stays (λ z. number_not_zero p (sym h.number ∙ z)) i }; buffer = h.buffer }
queue-closes (value u) (refused p) h is stays = record { answer = λ i. record { refusal = h.number i; queue = stays (λ z. number_not_zero p (sym h.number ∙ z)) i }; buffer = h.buffer }
queue-closes (value u) (value vs) h is stays = record { answer = λ i. record { refusal = h.number i; queue = (is h.number ∙ ap queue_of (ap decode h.buffer ∙ decode-encode vs)) i }; buffer = h.buffer }

-- less the pair
pub closes-of : {tests : Checked (Unit {0})} {work : Checked (List Validator)} {queue : ExitQueue} {opening closing after : List ℕ} {r : QueueAnswer} → QueueCloses tests work queue opening closing after r → Closes encode tests work opening closing after r.refusal
closes-of h = record { number = ap (λ (a : QueueAnswer). a.refusal) h.answer; buffer = h.buffer }

-- The registry was worked on in place
leaves-closes : (tests : Checked (Unit {0})) (work : Checked (List Validator)) {registry after : List ℕ} {r : Checked (Unit {0})} → Leaves (after_tests tests work) registry after r → Closes encode tests work registry registry after (code_of r)
unfolding after_tests bind closing_buffer
leaves-closes (refused p) work h = record { number = ap code_of h.ran.is; buffer = h.kept p refl }
leaves-closes (value u) (refused p) h = record { number = ap code_of h.ran.is; buffer = h.kept p refl }
leaves-closes (value u) (value vs) h = record { number = ap code_of h.ran.is; buffer = h.ran.held vs refl }

module _ (tests : Checked (Unit {0})) (work : Checked (List Validator)) {queue : ExitQueue} {registry after : List ℕ} {r : Checked ExitQueue} (h : LeavesPair (after_tests tests work) registry after r) where
  pub pair-given : {q : ExitQueue} → r ≡ value q → QueueCloses tests work queue registry registry after (record { refusal = 0; queue = q })
  pair-given z = queue-closes tests work (rw (ap done z) at (leaves-closes tests work h.leaves)) (λ _. h.queue z) (λ n. absurd (n refl))

  pub pair-refused : {p : Refusal} {n : ℕ} → r ≡ refused p → n ≡ number_of p → QueueCloses tests work queue registry registry after (record { refusal = n; queue = queue })
  pair-refused {p} {n} z k = queue-closes tests work (rw k (rw (ap done z) at (leaves-closes tests work h.leaves))) (λ e. absurd (number_not_zero p (sym k ∙ e))) (λ _. refl)

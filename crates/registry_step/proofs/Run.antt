-- What the step leaves once the tests have passed: its closing registry with that registry's pair, or the opening with the pair handed in.
use mathlib.Core.Path.{◌≡◌, refl, sym, ap, ◌∙◌}
use mathlib.Core.Bool.{cond}
use mathlib.Core.List.{List}
use Prim.Native.Nat.{ℕ}
use Rattle.std.specs.Prelude.{is_ok}
use Rattle.definitions.specs.declared.ExitQueue.{ExitQueue}
use Rattle.definitions.specs.declared.Refusal.{Refusal}
use Rattle.definitions.specs.Record.{Validator, encode, decode}
use Rattle.definitions.specs.Checked.{Checked, value, refused, code_of, number_of}
use Rattle.definitions.specs.ExitQueue.{queue_of}
use Rattle.definitions.specs.Closes.{Closes}
use Rattle.definitions_close.specs.QueueCalls.{QueueCloses}
use Rattle.laws.specs.Ran.{Ran}
use Rattle.laws.proofs.Checked.{number_not_zero}
use Rattle.refusals.proofs.buffers.Closes.{step-put_back}
use Rattle.validator_exit.proofs.queue_tests.Closes.{queue-closes}

-- `put_back` left `after`
module _ (step : List Validator → Checked (List Validator)) (opening : List ℕ) {closing xs after : List ℕ} {r : Checked (Unit {0})} (h : Ran (step (decode opening)) xs r) (k : after ≡ cond (is_ok r) xs opening) where
  closes : {n : ℕ} → n ≡ code_of r → Closes encode (value tt) (step (decode opening)) opening closing after n
  closes e = rw e (step-put_back step (value tt) {closing = closing} {x = value tt} refl refl refl h k)

  module _ {queue : ExitQueue} where
    pub run-restored : {p : Refusal} {n : ℕ} → r ≡ refused p → n ≡ number_of p → QueueCloses (value tt) (step (decode opening)) queue opening closing after (record { refusal = n; queue = queue })
    run-restored {p} z e =
        queue-closes (value tt) (step (decode opening)) (closes (e ∙ sym (ap code_of z))) (λ y. absurd (number_not_zero p (sym e ∙ y))) (λ _. refl)

    pub run-done : r ≡ value tt → {q : ExitQueue} → q ≡ queue_of (decode after) → QueueCloses (value tt) (step (decode opening)) queue opening closing after (record { refusal = 0; queue = q })
    run-done z e = queue-closes (value tt) (step (decode opening)) (closes (sym (ap code_of z))) (λ _. e) (λ y. absurd (y refl))

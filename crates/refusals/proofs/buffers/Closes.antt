-- What a closing buffer holds: the tests' answer x, then the work. A step's exported form cites one of these at each return.
use mathlib.Core.Path.{◌≡◌, refl, sym, ap, ◌∙◌, subst}
use mathlib.Core.Bool.{Bool, true, false, cond}
use mathlib.Core.List.{List}
use Prim.Native.Nat.{ℕ}
use lib.ListN.{length}
use Rattle.std.specs.Prelude.{is_ok}
use Rattle.definitions.specs.Record.{Validator, decode_one, encode_one, decode, encode}
use Rattle.definitions.specs.Checked.{Checked, value, refused, done, code_of, number_of, bind}
use Rattle.definitions.specs.declared.Refusal.{Refusal}
use Rattle.definitions.specs.Refusals.{after_tests, closing_buffer}
use Rattle.laws.proofs.Encode.{ten}
use Rattle.refusals.proofs.Answers.{after-refused, closing-untouched}
use Rattle.laws.specs.Ran.{Settles, Ran}
use Rattle.laws.proofs.Loops.Ran.{ran-kept, ran-restored}
use Rattle.definitions.specs.Closes.{Closes}

code-done : {A : Type 0} (m : Checked A) → code_of (done m) ≡ code_of m
code-done (value a) = refl
code-done (refused p) = refl

module _ {A : Type 0} (contents : A → List ℕ) (tests : Checked (Unit {0})) {opening closing : List ℕ} {x : Checked (Unit {0})} (e : x ≡ tests) where
  -- a test refused
  pub closes-refused : (work : Checked A) {p : Refusal} → x ≡ refused p → Closes contents tests work opening closing closing (number_of p)
  closes-refused work z = record { number = ap code_of (sym (after-refused tests work e z)); buffer = sym (closing-untouched contents tests work opening closing e z) }

  -- the work cannot refuse
  pub closes-plain : (a : A) {after : List ℕ} → x ≡ value tt → after ≡ contents a → Closes contents tests (value a) opening closing after 0
  unfolding after_tests bind closing_buffer
  closes-plain a z h = rw (sym e ∙ z) (record { number = refl; buffer = h })

-- A step over the registry, `step`, ran on a copy of the opening
module _ (step : List Validator → Checked (List Validator)) (tests : Checked (Unit {0})) {opening closing copy xs : List ℕ} {x r : Checked (Unit {0})} (e : x ≡ tests) (z : x ≡ value tt) (copied : copy ≡ opening) (h : Ran (step (decode copy)) xs r) where
  pub step-done : r ≡ value tt → Closes encode tests (step (decode opening)) opening closing xs (code_of r)
  unfolding after_tests bind
  step-done y = let ran : Ran (step (decode opening)) xs r = rw copied at h in rw (sym e ∙ z) (record { number = ap code_of ran.is ∙ code-done _; buffer = ran-kept ran opening closing y })

  -- the opening was copied again
  pub step-restored : {after : List ℕ} {p : Refusal} → r ≡ refused p → after ≡ opening → Closes encode tests (step (decode opening)) opening closing after (code_of r)
  unfolding after_tests bind
  step-restored y k = let ran : Ran (step (decode opening)) xs r = rw copied at h in rw (sym e ∙ z) (record { number = ap code_of ran.is ∙ code-done _; buffer = k ∙ ran-restored ran opening closing y })

  -- as `put_back` leaves it
  pub step-put_back : {after : List ℕ} → after ≡ cond (is_ok r) xs opening → Closes encode tests (step (decode opening)) opening closing after (code_of r)
  step-put_back {after} = go r refl
    where
      go : (t : Checked (Unit {0})) → r ≡ t → after ≡ cond (is_ok t) xs opening → Closes encode tests (step (decode opening)) opening closing after (code_of r)
      go (value u) q k = subst (λ (ys : List ℕ). Closes encode tests (step (decode opening)) opening closing ys (code_of r)) (sym k) (step-done q)
      go (refused p) q k = step-restored q k

-- One validator's ten numbers, worked on in place: as lent on every refusal
pub entry_closes : (f : Validator → Checked Validator) (tests : Checked (Unit {0})) {entry after : List ℕ} {x r : Checked (Unit {0})} → x ≡ tests → x ≡ value tt → length entry ≡ 10 → Settles f entry after r → Closes encode_one tests (f (decode_one entry)) entry entry after (code_of r)
unfolding after_tests bind closing_buffer
entry_closes f tests {entry} {after} {x} {r} e z l h = rw (sym e ∙ z) (go (f (decode_one entry)) refl)
  where
    go : (m : Checked Validator) → f (decode_one entry) ≡ m → Closes encode_one (value tt) m entry entry after (code_of r)
    go (value v) q = record { number = ap code_of (h.is ∙ ap done q); buffer = rw q at h.held }
    go (refused p) q = record { number = ap code_of (h.is ∙ ap done q); buffer = (rw q at h.held) ∙ sym (ten entry l) }

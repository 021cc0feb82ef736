-- What is answered where a test refused, and where none did. `x` is what the code's tests answered.
use mathlib.Core.List.{List}
use mathlib.Core.Path.{◌≡◌, refl, sym, ap, ◌∙◌}
use Prim.Native.Nat.{ℕ}
use Rattle.std.specs.Prelude.{IsErr, IsErrAnd}
use Rattle.definitions.specs.Checked.{Checked, value, refused, done, bind}
use Rattle.definitions.specs.declared.Refusal.{Refusal}
use Rattle.definitions.specs.Refusals.{after_tests, closing_buffer}
use Rattle.laws.proofs.Checked.{not_value}
use Rattle.arithmetic.proofs.Laws.{carried}

-- the work's answer, where no test refused
pub after-passed : {A : Type 0} (m : Checked (Unit {0})) (w : Checked A) {x : Checked (Unit {0})} → x ≡ m → x ≡ value tt → after_tests m w ≡ w
unfolding after_tests bind
after-passed m w e z = rw (sym e ∙ z)

-- the tests' refusal, where one refused
pub after-refused : {A : Type 0} (m : Checked (Unit {0})) (w : Checked A) {x : Checked (Unit {0})} {p : Refusal} → x ≡ m → x ≡ refused p → after_tests m w ≡ refused p
unfolding after_tests bind
after-refused m w e z = rw (sym e ∙ z)

-- A leaf shows what it answers: the work's answer r, or the tests' refusal
module _ {A : Type 0} (m : Checked (Unit {0})) {x : Checked (Unit {0})} (e : x ≡ m) where
  pub then-answers : {w r : Checked A} → x ≡ value tt → r ≡ w → r ≡ after_tests m w
  then-answers {w} z h = h ∙ sym (after-passed m w e z)

  -- by `?`
  pub refused-answers : (w : Checked A) {r : Checked A} {p : Refusal} → x ≡ refused p → IsErr r × IsErrAnd r (λ q. q ≡ p) → r ≡ after_tests m w
  refused-answers w z h = carried _ h ∙ sym (after-refused m w e z)

-- a closing buffer is untouched where a test refused
pub closing-untouched : {A : Type 0} (contents : A → List ℕ) (m : Checked (Unit {0})) (w : Checked A) (opening closing : List ℕ) {x : Checked (Unit {0})} {p : Refusal} → x ≡ m → x ≡ refused p → closing_buffer contents m w opening closing ≡ closing
unfolding closing_buffer
closing-untouched contents m w opening closing e z = rw (sym e ∙ z)

-- Nothing refused, so the tests did not

pub tested : {A : Type 0} (m : Checked (Unit {0})) (w : Checked A) → done (after_tests m w) ≡ value tt → m ≡ value tt
unfolding after_tests bind
tested (value u) w e = refl
tested (refused r) w e = absurd (not_value e)

-- and what was lent is not read
pub same-buffer : {A : Type 0} (contents : A → List ℕ) (m : Checked (Unit {0})) (w : Checked A) (opening xs ys : List ℕ) → done (after_tests m w) ≡ value tt → closing_buffer contents m w opening xs ≡ closing_buffer contents m w opening ys
unfolding closing_buffer after_tests bind
same-buffer contents (refused r) w opening xs ys e = absurd (not_value e)
same-buffer contents (value u) (refused r) opening xs ys e = absurd (not_value e)
same-buffer contents (value u) (value a) opening xs ys e = refl

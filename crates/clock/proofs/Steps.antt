-- Checked operations on the way to one answer, none of them above it: they refuse exactly where the answer does not fit.
use mathlib.Core.Path.{◌≡◌, refl, sym, ap, ◌∙◌}
use mathlib.Core.Bool.{Bool, true, false, cond}
use Prim.Native.Nat.{ℕ, ◌+◌, ◌*◌, ◌^◌, ◌≤◌, ◌<◌}
use native.Mathlib.Omega.{arith}
use native.Mathlib.Nat.{mul-le-mul_left, mul_comm, one-mul}
use borrow.Author.Tests.{le-ltb, ltb-false}
use lib.Dec.{ltb}
use Rattle.std.specs.Prelude.{IsErr, IsErrAnd}
use Rattle.definitions.specs.Checked.{Checked, value, refused, add64, mul64}
use Rattle.definitions.specs.declared.Refusal.{Refusal}
use Rattle.definitions.specs.declared.Refusal.TheVariants.{Overflow}
use Rattle.laws.proofs.Checked.{not_value, refused_same}
use Rattle.arithmetic.proofs.Laws.{carried}
use Rattle.definitions_clock.specs.Calls.{fits64}
use Rattle.definitions_clock.proofs.Calls.{fits-value}

pub mul_fits : (a b : ℕ) {r : Checked ℕ} → r ≡ mul64 a b → r ≡ fits64 (a * b)
unfolding mul64 fits64
mul_fits a b h = h

pub add_fits : (a b : ℕ) {r : Checked ℕ} → r ≡ add64 a b → r ≡ fits64 (a + b)
unfolding add64 fits64
add_fits a b h = h

record Over (a : ℕ) (p : Refusal) : Type 0 where
  why : p ≡ Overflow
  above : 2 ^ 64 ≤ a

fits-over : (a : ℕ) {p : Refusal} → fits64 a ≡ refused p → Over a p
unfolding fits64
fits-over a {p} e = go (ltb a (2 ^ 64)) refl e
  where
    go : (t : Bool) → ltb a (2 ^ 64) ≡ t → cond t (value a) (refused Overflow) ≡ refused p → Over a p
    go true h e = absurd (not_value (sym e))
    go false h e = record { why = sym (refused_same e); above = ltb-false a (2 ^ 64) h }

fits_refused : (a : ℕ) → 2 ^ 64 ≤ a → fits64 a ≡ refused Overflow
unfolding fits64
fits_refused a h = rw (le-ltb a (2 ^ 64) h)

-- an operation gave its number, and the rest works on it
pub goes_on : (a : ℕ) {x b c : ℕ} {r s : Checked ℕ} → r ≡ fits64 a → r ≡ value x → (a ≡ x → b ≡ c) → s ≡ fits64 b → s ≡ fits64 c
goes_on a {s = s} h e f k = rw (f (fits-value a (sym h ∙ e))) at k

-- an operation was refused: the answer is not smaller
pub stops : (a b : ℕ) {p : Refusal} {r s : Checked ℕ} → r ≡ fits64 a → r ≡ refused p → a ≤ b → IsErr s × IsErrAnd s (λ q. q ≡ p) → s ≡ fits64 b
stops a b h e l t =
    let o = fits-over a (sym h ∙ e) in
    carried _ t ∙ ap refused o.why ∙ sym (fits_refused b (omega (arith, o.above)))

pub times : (a p : ℕ) → 0 < p → a ≤ a * p
times a p h = omega (arith, let l : a * 1 ≤ a * p = mul-le-mul_left a h in l, mul_comm a 1, one-mul a)

-- The text of a close. `r`, `xs` and `ys` are what it gave.
use mathlib.Core.List.{List}
use mathlib.Core.Path.{◌≡◌, ap}
use Prim.Native.Nat.{ℕ}
use borrow.Author.Tests.{eq-eqb, ne_eqb}
use Rattle.definitions.specs.declared.CloseAnswer.{CloseAnswer}
use Rattle.definitions.specs.Close.{Call, Outcome, close}
use Rattle.close.specs.Called.{outcome}
use Rattle.definitions_file.specs.Lines.{refused_line, or_refused, accepted_text, close_printed}

pub or_refused_lem : {x y : ℕ} (text : List ℕ) → x ≡ y → (x ≡ 0 → ⊥) → or_refused y text ≡ refused_line x
or_refused_lem {x} {y} text e z = rw (← e, ne_eqb x 0 z)

pub or_text : {y : ℕ} (text : List ℕ) → y ≡ 0 → or_refused y text ≡ text
or_text {y} text e = rw (eq-eqb y 0 e)

module _ (c : Call) {r : CloseAnswer} {xs ys : List ℕ} (e : outcome r xs ys ≡ close c) where
  pub printed-refused : (r.refusal ≡ 0 → ⊥) → close_printed c (close c) ≡ refused_line r.refusal
  printed-refused z = or_refused_lem (accepted_text c (close c)) (ap (λ (o : Outcome). o.refusal) e) z

  pub printed-text : r.refusal ≡ 0 → close_printed c (close c) ≡ accepted_text c (outcome r xs ys)
  printed-text z = rw (← e) (or_text (accepted_text c (outcome r xs ys)) z)

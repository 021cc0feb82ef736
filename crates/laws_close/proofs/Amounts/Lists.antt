-- Checked loops, one by one.
use mathlib.Core.Path.{◌≡◌, refl, sym, ap, ◌∙◌}
use mathlib.Core.List.{List, [], ◌∷◌, map}
use Prim.Native.Nat.{ℕ, zero, suc, ◌<◌}
use native.Mathlib.Omega.{arith}
use lib.ListN.{length, get_or}
use Rattle.definitions.specs.Checked.{Checked, value, bind, map_checked}
use Rattle.laws.proofs.Checked.{value_same, bound}
use Rattle.arithmetic.proofs.Laws.{bind-value}

-- a definition gave a value
pub record Gave {A : Type 0} (m : Checked A) : Type 0 where
  pub gift : A
  pub gave : m ≡ value gift

module _ {A B : Type 0} (f : A → Checked B) where
  pub each-length : (xs : List A) {ys : List B} → map_checked f xs ≡ value ys → length ys ≡ length xs
  unfolding map_checked
  each-length [] e = ap length (sym (value_same e))
  each-length (x ∷ xs) e =
      let a = bound (f x) (λ y. bind (map_checked f xs) (λ ys. value (y ∷ ys))) e in
      let b = bound (map_checked f xs) (λ ys. value (a.first ∷ ys)) a.then in
      ap length (sym (value_same b.then)) ∙ ap suc (each-length xs b.gave)

  pub each_at : (d : A) (d' : B) (xs : List A) {ys : List B} → map_checked f xs ≡ value ys → (i : ℕ) → i < length xs → f (get_or xs i d) ≡ value (get_or ys i d')
  unfolding map_checked
  each_at d d' [] e i l = absurd (omega arith)
  each_at d d' (x ∷ xs) e zero l =
      let a = bound (f x) (λ y. bind (map_checked f xs) (λ ys. value (y ∷ ys))) e in
      let b = bound (map_checked f xs) (λ ys. value (a.first ∷ ys)) a.then in
      a.gave ∙ ap (λ (ys : List B). value (get_or ys 0 d')) (value_same b.then)
  each_at d d' (x ∷ xs) e (suc i) l =
      let a = bound (f x) (λ y. bind (map_checked f xs) (λ ys. value (y ∷ ys))) e in
      let b = bound (map_checked f xs) (λ ys. value (a.first ∷ ys)) a.then in
      each_at d d' xs b.gave i (omega arith) ∙ ap (λ (ys : List B). value (get_or ys (suc i) d')) (value_same b.then)

  -- where each gives one, the loop does
  pub each_gave : (d : A) (xs : List A) → ((i : ℕ) → i < length xs → Gave (f (get_or xs i d))) → Gave (map_checked f xs)
  unfolding map_checked
  each_gave d [] h = record { gift = []; gave = refl }
  each_gave d (x ∷ xs) h =
      let a = h 0 (omega arith) in
      let b = each_gave d xs (λ i l. h (suc i) (omega arith)) in
      record { gift = a.gift ∷ b.gift; gave = bind-value _ a.gave ∙ bind-value _ b.gave }

pub at_map : {A B : Type 0} (f : A → B) (d : A) (d' : B) (xs : List A) (i : ℕ) → i < length xs → get_or (map f xs) i d' ≡ f (get_or xs i d)
at_map f d d' [] i l = absurd (omega arith)
at_map f d d' (x ∷ xs) zero l = refl
at_map f d d' (x ∷ xs) (suc i) l = at_map f d d' xs i (omega arith)

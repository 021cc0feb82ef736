-- Totals and counts of those that pass a test, as sums over all.
use mathlib.Core.Path.{◌≡◌, refl, ap}
use mathlib.Core.Bool.{Bool, true, false, cond}
use mathlib.Core.List.{List, [], ◌∷◌, ◌++◌, map}
use Prim.Native.Nat.{ℕ, suc, ◌+◌, ◌≤◌, ◌^◌}
use native.Mathlib.Omega.{arith}
use lib.ListN.{length}
use lib.Dec.{ltb}
use Rattle.definitions.specs.Lists.{filter, sum}
use Rattle.definitions.specs.Checked.{value, refused, sum64}
use Rattle.definitions.specs.declared.Refusal.TheVariants.{Overflow}

pub sum64-same : (xs ys : List ℕ) → sum xs ≡ sum ys → sum64 xs ≡ sum64 ys
unfolding sum64
sum64-same xs ys e = ap (λ (t : ℕ). cond (ltb t (2 ^ 64)) (value t) (refused Overflow)) e

module _ {A : Type 0} (p : A → Bool) where
  pub sum-filter : (w : A → ℕ) (vs : List A) → sum (map w (filter p vs)) ≡ sum (map (λ v. cond (p v) (w v) 0) vs)
  unfolding sum filter
  sum-filter w [] = refl
  sum-filter w (v ∷ vs) = go (p v) (sum-filter w vs)
    where
      rest : ℕ
      rest = sum (map (λ v. cond (p v) (w v) 0) vs)

      go : (t : Bool) → sum (map w (filter p vs)) ≡ rest → sum (map w (cond t (v ∷ filter p vs) (filter p vs))) ≡ cond t (w v) 0 + rest
      go true h = omega arith
      go false h = omega arith

  pub sum64-filter : (w : A → ℕ) (vs : List A) → sum64 (map w (filter p vs)) ≡ sum64 (map (λ v. cond (p v) (w v) 0) vs)
  sum64-filter w vs = sum64-same (map w (filter p vs)) (map (λ v. cond (p v) (w v) 0) vs) (sum-filter w vs)

  pub length-filter : (vs : List A) → length (filter p vs) ≡ sum (map (λ v. cond (p v) 1 0) vs)
  unfolding sum filter
  length-filter [] = refl
  length-filter (v ∷ vs) = go (p v) (length-filter vs)
    where
      rest : ℕ
      rest = sum (map (λ v. cond (p v) 1 0) vs)

      go : (t : Bool) → length (filter p vs) ≡ rest → length (cond t (v ∷ filter p vs) (filter p vs)) ≡ cond t 1 0 + rest
      go true h = omega arith
      go false h = omega arith

  pub filter_le : (vs : List A) → length (filter p vs) ≤ length vs
  unfolding filter
  filter_le [] = omega arith
  filter_le (v ∷ vs) = go (p v) (filter_le vs)
    where
      go : (t : Bool) → length (filter p vs) ≤ length vs → length (cond t (v ∷ filter p vs) (filter p vs)) ≤ suc (length vs)
      go true h = omega arith
      go false h = omega arith

  -- one more at the end
  pub filter-last : (us : List A) (v : A) → length (filter p (us ++ (v ∷ []))) ≡ length (filter p us) + cond (p v) 1 0
  unfolding filter
  filter-last [] v = go (p v)
    where
      go : (t : Bool) → length (cond t (v ∷ []) []) ≡ 0 + cond t 1 0
      go true = refl
      go false = refl
  filter-last (u ∷ us) v = go (p u) (filter-last us v)
    where
      go : (t : Bool) → length (filter p (us ++ (v ∷ []))) ≡ length (filter p us) + cond (p v) 1 0 → length (cond t (u ∷ filter p (us ++ (v ∷ []))) (filter p (us ++ (v ∷ [])))) ≡ length (cond t (u ∷ filter p us) (filter p us)) + cond (p v) 1 0
      go true h = omega arith
      go false h = omega arith

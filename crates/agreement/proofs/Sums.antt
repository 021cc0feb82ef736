-- A sum of many leaves 64 bits on the way exactly where it does at the end, in whatever order.
use mathlib.Core.Path.{◌≡◌, refl, sym, ◌∙◌}
use mathlib.Core.List.{List, [], ◌∷◌, Permᴰ}
use Prim.Native.Nat.{ℕ, ◌+◌, ◌^◌, ◌<◌}
use native.Mathlib.Nat.{zero-add, add-zero, add_assoc}
use native.Mathlib.Decide.{dec_lt}
use native.Mathlib.Omega.{arith}
use Rattle.definitions.specs.Lists.{sum}
use Rattle.definitions.specs.Checked.{bind, add64, sum64, fold_checked}
use Rattle.laws.proofs.Fits.{add64-fits, add64-leaves}

regroup : (a b c : ℕ) → add64 (a + b) c ≡ add64 a (b + c)
unfolding add64
regroup a b c = rw (add_assoc a b c)

-- one by one, from a number that fits on
pub one_by_one : (a : ℕ) (xs : List ℕ) → a < 2 ^ 64 → fold_checked add64 a xs ≡ add64 a (sum xs)
unfolding fold_checked sum bind
one_by_one a [] h = rw (add64-fits a 0 (omega arith), add-zero)
one_by_one a (x ∷ xs) h = go (dec_lt (a + x) (2 ^ 64)) (one_by_one (a + x) xs)
  where
    go : Dec (a + x < 2 ^ 64) → (a + x < 2 ^ 64 → fold_checked add64 (a + x) xs ≡ add64 (a + x) (sum xs)) → fold_checked add64 a (x ∷ xs) ≡ add64 a (sum (x ∷ xs))
    go (yes l) later = rw (add64-fits a x l) (later l ∙ regroup a x (sum xs))
    go (no n) later = rw (add64-leaves a x (omega arith)) (sym (add64-leaves a (x + sum xs) (omega arith)))

pub summed : (xs : List ℕ) → fold_checked add64 0 xs ≡ sum64 xs
unfolding add64 sum64
summed xs = rw (one_by_one 0 xs (omega arith), zero-add)

sum-order : {xs ys : List ℕ} → Permᴰ xs ys → sum xs ≡ sum ys
unfolding sum
sum-order Permᴰ.nil = refl
sum-order (Permᴰ.cons e d) = let h = sum-order d in omega arith
sum-order (Permᴰ.swap e f) = omega arith
sum-order (Permᴰ.trans d g) = sum-order d ∙ sum-order g

pub summed_in_any_order : {xs ys : List ℕ} → Permᴰ xs ys → fold_checked add64 0 xs ≡ sum64 ys
unfolding sum64
summed_in_any_order {xs} {ys} d = rw (summed xs, sum-order d)

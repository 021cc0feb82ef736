-- A loop that looks at one after the other, and stops at the first that fails.
use mathlib.Core.Bool.{Bool, true, false, not, ◌&&◌}
use mathlib.Core.List.{List, [], ◌∷◌}
use mathlib.Core.Path.{◌≡◌, refl, sym, ◌∙◌}
use Prim.Native.Nat.{ℕ, zero, suc, ◌+◌, ◌≤◌, ◌<◌}
use native.Mathlib.Numerals.{add-one}
use native.Mathlib.Omega.{arith}
use borrow.Author.Tests.{not-true, not-false}
use lib.ListN.{length, get_or, drop, drop_of_length-le}
use lib.Seq.{drop-cons}
use Rattle.definitions.specs.Lists.{all}
use Rattle.laws.proofs.Tests.{both}

-- what the code's `if !test` tells of the definition's test
pub fails : {t u : Bool} → t ≡ u → not t ≡ true → u ≡ false
fails {t} e p = sym e ∙ not-true t p

pub passes : {t u : Bool} → t ≡ u → not t ≡ false → u ≡ true
passes {t} e p = sym e ∙ not-false t p

-- the first i pass
pub record Passed {A : Type 0} (p : A → Bool) (xs : List A) (i : ℕ) : Type 0 where
  pub below : i ≤ length xs
  pub left : all p xs ≡ all p (drop i xs)

pub passed_none : {A : Type 0} (p : A → Bool) (xs : List A) → Passed p xs 0
passed_none p xs = record { below = omega arith; left = refl }

module _ {A : Type 0} {p : A → Bool} {xs : List A} {i : ℕ} (s : Passed p xs i) where
  pub passed-all : length xs ≤ i → all p xs ≡ true
  unfolding all
  passed-all l = s.left ∙ rw (drop_of_length-le xs l)

  module _ (l : i < length xs) (d : A) where
    -- i is the next
    next : all p xs ≡ (p (get_or xs i d) && all p (drop (suc i) xs))
    unfolding all
    next = s.left ∙ rw (drop-cons xs i d l)

    pub passed-more : p (get_or xs i d) ≡ true → Passed p xs (i + 1)
    passed-more t = record { below = omega arith; left = rw (add-one i) (next ∙ rw t) }

    pub passed-stop : p (get_or xs i d) ≡ false → all p xs ≡ false
    passed-stop t = next ∙ rw t

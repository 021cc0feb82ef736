-- The test of the lengths: their sum and the longest, from what is left of them.
use mathlib.Core.Path.{◌≡◌, refl, sym}
use mathlib.Core.Bool.{Bool, true, false}
use mathlib.Core.List.{List, [], ◌∷◌}
use Prim.Native.Nat.{ℕ, zero, suc, ◌+◌, max, ◌≤◌, ◌<◌}
use native.Mathlib.Omega.{arith}
use native.Mathlib.Numerals.{add-one}
use borrow.Author.Tests.{le-leb, lt-leb, leb-true, leb-false, eq-eqb, ne_eqb, eqb-true, eqb-false}
use lib.Dec.{leb, eqb}
use lib.ListN.{length, get_or, drop, drop_of_length-le}
use lib.Seq.{drop-cons}
use Rattle.definitions.specs.Lists.{sum, maximum}

pub sum_more : (xs : List ℕ) (i : ℕ) → i < length xs → sum (drop i xs) ≡ get_or xs i 0 + sum (drop (i + 1) xs)
unfolding sum
sum_more xs i l = rw (add-one i, drop-cons xs i 0 l)

pub sum-none : (xs : List ℕ) (i : ℕ) → length xs ≤ i → sum (drop i xs) ≡ 0
unfolding sum
sum-none xs i l = rw (drop_of_length-le xs l)

pub longest-more : (xs : List ℕ) (i : ℕ) → i < length xs → maximum 0 (drop i xs) ≡ max (get_or xs i 0) (maximum 0 (drop (i + 1) xs))
unfolding maximum
longest-more xs i l = rw (add-one i, drop-cons xs i 0 l)

pub longest-none : (xs : List ℕ) (i : ℕ) → length xs ≤ i → maximum 0 (drop i xs) ≡ 0
unfolding maximum
longest-none xs i l = rw (drop_of_length-le xs l)

max-within : (x m bound : ℕ) → x ≤ bound → leb (max x m) bound ≡ leb m bound
max-within x m bound l = go (leb m bound) refl
  where
    go : (t : Bool) → leb m bound ≡ t → leb (max x m) bound ≡ t
    go true e = le-leb (max x m) bound (omega (arith, leb-true m bound e))
    go false e = lt-leb (max x m) bound (omega (arith, leb-false m bound e))

-- how the longest of all compares with a bound, by those from i on
pub within_more : (xs : List ℕ) (i bound : ℕ) → i < length xs → get_or xs i 0 ≤ bound → leb (maximum 0 (drop i xs)) bound ≡ leb (maximum 0 (drop (i + 1) xs)) bound
within_more xs i bound l h = rw (longest-more xs i l) (max-within (get_or xs i 0) (maximum 0 (drop (i + 1) xs)) bound h)

pub beyond : (xs : List ℕ) (i bound : ℕ) → i < length xs → bound < get_or xs i 0 → leb (maximum 0 (drop i xs)) bound ≡ false
beyond xs i bound l h = rw (longest-more xs i l) (lt-leb _ bound (omega arith))

-- each is at most the longest
pub each-longest : (xs : List ℕ) (i : ℕ) → i < length xs → get_or xs i 0 ≤ maximum 0 (drop i xs)
each-longest xs i l = omega (arith, longest-more xs i l)

pub longest-drop : (xs : List ℕ) (i : ℕ) → maximum 0 (drop i xs) ≤ maximum 0 xs
unfolding maximum
longest-drop xs zero = omega arith
longest-drop [] (suc i) = omega arith
longest-drop (x ∷ xs) (suc i) = omega (arith, longest-drop xs i)

-- nothing is left of the total where the lengths add up to it
pub left-none : (all left total : ℕ) → all + left ≡ total → eqb left 0 ≡ eqb all total
left-none all left total e = go (eqb left 0) refl
  where
    go : (t : Bool) → eqb left 0 ≡ t → t ≡ eqb all total
    go true z = sym (eq-eqb all total (omega (arith, eqb-true left 0 z)))
    go false z = sym (ne_eqb all total (λ h. eqb-false left 0 z (omega arith)))

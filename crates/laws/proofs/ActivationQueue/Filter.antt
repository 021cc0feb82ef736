-- Counting those that pass a test.
use mathlib.Core.Path.{◌≡◌, refl}
use mathlib.Core.Bool.{Bool, true, false, cond}
use mathlib.Core.List.{List, [], ◌∷◌}
use Prim.Native.Nat.{ℕ, zero, suc, ◌+◌, ◌≤◌, ◌<◌}
use native.Mathlib.Omega.{arith}
use native.Mathlib.Numerals.{add-one}
use lib.ListN.{length, get_or, take}
use Rattle.definitions.specs.Lists.{filter}
use Rattle.laws.specs.Cut.{count}

abbrev pub flag : Bool → ℕ
flag b = cond b 1 0

pub flag_one : (b : Bool) → flag b ≤ 1
flag_one false = omega arith
flag_one true = omega arith

flag_mono : (a b : Bool) → (a ≡ true → b ≡ true) → flag a ≤ flag b
flag_mono false b h = omega arith
flag_mono true b h = rw (h refl) (omega arith)

module _ {A : Type 0} where
  pub count_none : (p : A → Bool) → count p [] ≡ 0
  unfolding filter
  count_none p = refl

  pub count-more : (p : A → Bool) (x : A) (xs : List A) → count p (x ∷ xs) ≡ flag (p x) + count p xs
  unfolding filter
  count-more p x xs = go (p x)
    where
      go : (b : Bool) → length (cond b (x ∷ filter p xs) (filter p xs)) ≡ flag b + count p xs
      go true = omega arith
      go false = omega arith

  pub count_mono : (p q : A → Bool) → ((x : A) → p x ≡ true → q x ≡ true) → (xs : List A) → count p xs ≤ count q xs
  count_mono p q h [] = omega (arith, count_none p)
  count_mono p q h (x ∷ xs) = omega (arith, count-more p x xs, count-more q x xs, flag_mono (p x) (q x) (h x), count_mono p q h xs)

  -- r passes where p or q does, and they never do both
  pub count_plus : (p q r : A → Bool) → ((x : A) → flag (r x) ≡ flag (p x) + flag (q x)) → (xs : List A) → count r xs ≡ count p xs + count q xs
  count_plus p q r h [] = omega (arith, count_none p, count_none q, count_none r)
  count_plus p q r h (x ∷ xs) = omega (arith, count-more p x xs, count-more q x xs, count-more r x xs, h x, count_plus p q r h xs)

  -- Of the first i

  suc_more : (p : A → Bool) (xs : List A) (i : ℕ) (d : A) → i < length xs → count p (take (suc i) xs) ≡ count p (take i xs) + flag (p (get_or xs i d))
  suc_more p [] i d l = absurd (omega arith)
  suc_more p (x ∷ xs) zero d l = omega (arith, count-more p x [], count_none p)
  suc_more p (x ∷ xs) (suc i) d l = omega (arith, count-more p x (take (suc i) xs), count-more p x (take i xs), suc_more p xs i d (omega arith))

  pub first_more : (p : A → Bool) (xs : List A) (i : ℕ) (d : A) → i < length xs → count p (take (i + 1) xs) ≡ count p (take i xs) + flag (p (get_or xs i d))
  first_more p xs i d l = rw (add-one i) (suc_more p xs i d l)

  pub first_le : (p : A → Bool) (xs : List A) (i : ℕ) → count p (take i xs) ≤ count p xs
  first_le p xs zero = omega (arith, count_none p)
  first_le p [] (suc i) = omega arith
  first_le p (x ∷ xs) (suc i) = omega (arith, count-more p x (take i xs), count-more p x xs, first_le p xs i)

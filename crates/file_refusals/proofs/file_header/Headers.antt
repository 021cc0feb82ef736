-- The header's ten numbers: compared one by one, and what follows for test 6.
use mathlib.Core.Path.{◌≡◌, refl, ap}
use mathlib.Core.Bool.{Bool, ◌&&◌}
use mathlib.Core.List.{List, [], ◌∷◌}
use Prim.Native.Nat.{ℕ}
use lib.Dec.{lit<, leb, eqb}
use lib.ListN.{length, get_or}
use lib.Pointwise.{pointwise}
use Rattle.definitions.specs.Lists.{every}
use Rattle.definitions_file.specs.File.{numbers_from_bytes, header, file_length, same_numbers, good_header}
use Rattle.laws_file.proofs.Numbers.{number-at}

-- the comparison of two arrays
pub same-pointwise : (xs ys : List ℕ) → pointwise eqb xs ys ≡ same_numbers xs ys
unfolding same_numbers
same-pointwise [] [] = refl
same-pointwise [] (y ∷ ys) = refl
same-pointwise (x ∷ xs) [] = refl
same-pointwise (x ∷ xs) (y ∷ ys) = ap (λ (t : Bool). eqb x y && t) (same-pointwise xs ys)

-- Test 6 by the ten numbers found

abbrev pub tests_by : List ℕ → List ℕ → List Bool
tests_by bytes found =
    let version = get_or found 0 0 in
    let n = get_or found 2 0 in
    let S = get_or found 3 0 in
    let L = get_or found 4 0 in
    leb 80 (length bytes)
    ∷ leb 1 version
    ∷ leb version 2
    ∷ same_numbers found (header version n S L)
    ∷ eqb (length bytes) (file_length version n S L)
    ∷ []

pub by-found : (bytes found : List ℕ) → found ≡ numbers_from_bytes 10 bytes → good_header bytes ≡ every (tests_by bytes found)
unfolding good_header
by-found bytes found f =
    rw (
      f,
      number-at 10 0 bytes (lit< tt),
      number-at 10 2 bytes (lit< tt),
      number-at 10 3 bytes (lit< tt),
      number-at 10 4 bytes (lit< tt),
    )

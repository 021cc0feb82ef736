-- How long numbers are as bytes, and where each stands.
use mathlib.Core.Path.{◌≡◌, refl, ap}
use mathlib.Core.List.{List, [], ◌∷◌}
use Prim.Native.Nat.{ℕ, zero, suc, ◌+◌, ◌*◌, ◌/◌, ◌<◌}
use native.Mathlib.Omega.{arith}
use lib.ListN.{length, get_or, drop, length-append}
use lib.Seq.{drop-drop}
use Rattle.definitions_file.specs.File.{little_endian, numbers_to_bytes, numbers_from_bytes, number_at}

pub length_little : (k n : ℕ) → length (little_endian k n) ≡ k
unfolding little_endian
length_little zero n = refl
length_little (suc k) n = ap suc (length_little k (n / 256))

pub length_to_bytes : (xs : List ℕ) → length (numbers_to_bytes xs) ≡ 8 * length xs
unfolding numbers_to_bytes
length_to_bytes [] = refl
length_to_bytes (x ∷ xs) = rw length-append (omega (arith, length_little 8 x, length_to_bytes xs))

pub length_from_bytes : (n : ℕ) (bytes : List ℕ) → length (numbers_from_bytes n bytes) ≡ n
unfolding numbers_from_bytes
length_from_bytes zero bytes = refl
length_from_bytes (suc n) bytes = ap suc (length_from_bytes n (drop 8 bytes))

-- the number at i of many, in its place
pub number-at : (n i : ℕ) (bytes : List ℕ) → i < n → get_or (numbers_from_bytes n bytes) i 0 ≡ number_at (8 * i) bytes
unfolding numbers_from_bytes
number-at zero i bytes h = absurd (omega arith)
number-at (suc n) zero bytes h = refl
number-at (suc n) (suc i) bytes h =
    let e : 8 * suc i ≡ 8 + 8 * i = omega arith in
    rw (e, ← drop-drop) (number-at n i (drop 8 bytes) (omega arith))

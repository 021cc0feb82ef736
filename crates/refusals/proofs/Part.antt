-- The part of the registry that is lent for the validator i, for a registry of any length.
use mathlib.Core.Bool.{Bool}
use mathlib.Core.List.{List}
use mathlib.Core.Path.{◌≡◌, refl, sym, ap, ◌∙◌}
use Prim.Native.Nat.{ℕ, zero, suc, ◌+◌, ◌-◌, ◌*◌, ◌/◌, ◌<◌}
use native.Mathlib.Omega.{arith}
use lib.ListN.{length, get_or, take, drop, length-take, length-drop}
use lib.Seq.{get_or-take, drop-drop}
use Rattle.definitions.specs.Record.{Validator, decode_one, decode_first, decode, nobody}
use Rattle.laws.proofs.Encode.{length-first}

-- its ten numbers
abbrev pub part_at : ℕ → List ℕ → List ℕ
part_at i xs = take (10 * i + 10 - 10 * i) (drop (10 * i) xs)

pub length-decoded : (xs : List ℕ) → length (decode xs) ≡ length xs / 10
unfolding decode
length-decoded xs = length-first (length xs / 10) xs

first-at : (n : ℕ) (xs : List ℕ) (i : ℕ) (d : Validator) → i < n → get_or (decode_first n xs) i d ≡ decode_one (drop (10 * i) xs)
unfolding decode_first
first-at zero xs i d l = absurd (omega arith)
first-at (suc n) xs zero d l = refl
first-at (suc n) xs (suc i) d l =
    let e : 10 * suc i ≡ 10 + 10 * i = omega arith in
    rw e (first-at n (drop 10 xs) i d (omega arith) ∙ ap decode_one (drop-drop (10 * i) 10 xs))

-- only ten numbers are read
decode-ten : (xs : List ℕ) → decode_one (take 10 xs) ≡ decode_one xs
decode-ten xs =
    rw (
      at 0 (omega arith),
      at 1 (omega arith),
      at 2 (omega arith),
      at 3 (omega arith),
      at 4 (omega arith),
      at 5 (omega arith),
      at 6 (omega arith),
      at 7 (omega arith),
      at 8 (omega arith),
      at 9 (omega arith),
    )
  where
    at : (k : ℕ) → k < 10 → get_or (take 10 xs) k 0 ≡ get_or xs k 0
    at k l = get_or-take 10 xs k 0 l

pub part_length : (xs : List ℕ) (i : ℕ) → i < length xs / 10 → length (part_at i xs) ≡ 10
part_length xs i l = simp (length-take, length-drop) (omega arith)

pub part-decoded : (xs : List ℕ) (i : ℕ) (d : Validator) → i < length xs / 10 → decode_one (part_at i xs) ≡ get_or (decode xs) i d
unfolding decode
part-decoded xs i d l =
    let k : 10 * i + 10 - 10 * i ≡ 10 = omega arith in
    rw k (decode-ten (drop (10 * i) xs) ∙ sym (first-at (length xs / 10) xs i d l))

-- a test of the part is a test of the validator i
pub part-tested : (p : Validator → Bool) (xs : List ℕ) {i : ℕ} {t : Bool} → i < length xs / 10 → p (decode_one (part_at i xs)) ≡ t → p (get_or (decode xs) i nobody) ≡ t
part-tested p xs {i} l e = rw (← part-decoded xs i nobody l) e

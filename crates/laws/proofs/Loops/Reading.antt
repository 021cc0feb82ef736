-- A loop that reads the registry, one validator a turn: the prefix that it has read.
use mathlib.Core.Path.{◌≡◌, sym, ap, ◌∙◌}
use mathlib.Core.List.{List, [], ◌∷◌, ◌++◌}
use Prim.Native.Nat.{ℕ, suc, ◌+◌, ◌*◌, ◌≤◌, ◌<◌}
use native.Mathlib.Omega.{arith}
use native.Mathlib.Numerals.{add-one}
use lib.ListN.{length, get_or, take, drop, take-append-drop}
use lib.Seq.{take-suc, take_all, drop-cons}
use Rattle.definitions.specs.Record.{Validator, decode_one, decode, nobody}
use Rattle.laws.proofs.Encode.{length-decode}
use Rattle.laws.proofs.Loops.Entry.{entry_at, entry-ten, entry-is}

pub record Reading (n : ℕ) (xs : List ℕ) (i : ℕ) : Type 0 where
  pub long : length xs ≡ 10 * n
  pub below : i ≤ n

pub reading_none : {n : ℕ} {xs : List ℕ} → length xs ≡ 10 * n → Reading n xs 0
reading_none h = record { long = h; below = omega arith }

module _ {n : ℕ} {xs : List ℕ} {i : ℕ} (a : Reading n xs i) where
  pub prefix_all : n ≤ i → take i (decode xs) ≡ decode xs
  prefix_all l = take_all i (decode xs) (omega (arith, length-decode n xs a.long))

  module _ (l : i < n) where
    pub reading_more : Reading n xs (i + 1)
    reading_more = record { long = a.long; below = omega arith }

    pub reading_ten : length (entry_at xs i) ≡ 10
    reading_ten = entry-ten n xs i a.long l

    pub reading_is : decode_one (entry_at xs i) ≡ get_or (decode xs) i nobody
    reading_is = entry-is n xs i a.long l

    inside : i < length (decode xs)
    inside = omega (arith, length-decode n xs a.long)

    pub prefix_more : take (i + 1) (decode xs) ≡ take i (decode xs) ++ (decode_one (entry_at xs i) ∷ [])
    prefix_more = rw (add-one i, reading_is) (take-suc (decode xs) i nobody inside)

    -- the whole is the prefix, this one and the rest
    pub prefix_rest : decode xs ≡ take i (decode xs) ++ (decode_one (entry_at xs i) ∷ drop (suc i) (decode xs))
    prefix_rest =
        rw reading_is
        (sym (take-append-drop i (decode xs)) ∙ ap (λ (t : List Validator). take i (decode xs) ++ t) (drop-cons (decode xs) i nobody inside))

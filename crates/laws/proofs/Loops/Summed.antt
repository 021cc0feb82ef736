-- A loop that adds up, and is refused where the sum leaves 64 bits: a slice of numbers, and a weight over the registry.
use mathlib.Core.Path.{◌≡◌, refl, sym, ap, ◌∙◌}
use mathlib.Core.List.{List, [], ◌∷◌, ◌++◌, map}
use Prim.Native.Nat.{ℕ, ◌+◌, ◌*◌, ◌^◌, ◌≤◌, ◌<◌}
use native.Mathlib.Omega.{arith}
use native.Mathlib.Numerals.{add-one}
use borrow.Author.Tests.{lt-ltb, le-ltb}
use lib.ListN.{length, get_or, take, drop, length-map, take-append-drop, get_or-map}
use lib.Seq.{take-suc, take_all}
use Rattle.definitions.specs.Lists.{sum}
use Rattle.definitions.specs.Checked.{value, refused, sum64}
use Rattle.definitions.specs.declared.Refusal.TheVariants.{Overflow}
use Rattle.definitions.specs.Record.{Validator, decode_one, decode, nobody}
use Rattle.laws.proofs.Encode.{length-decode}
use Rattle.laws.proofs.Loops.Entry.{entry_at}
use Rattle.laws.proofs.Loops.Reading.{Reading, reading_none, reading_more, reading_is}

pub sum-append : (xs ys : List ℕ) → sum (xs ++ ys) ≡ sum xs + sum ys
unfolding sum
sum-append [] ys = omega arith
sum-append (x ∷ xs) ys = omega (arith, sum-append xs ys)

sum_one : (x : ℕ) → sum (x ∷ []) ≡ x
unfolding sum
sum_one x = omega arith

pub sum64-given : (ys : List ℕ) → sum ys < 2 ^ 64 → sum64 ys ≡ value (sum ys)
unfolding sum64
sum64-given ys h = rw (lt-ltb (sum ys) (2 ^ 64) h)

pub sum64-refused : (ys : List ℕ) → 2 ^ 64 ≤ sum ys → sum64 ys ≡ refused Overflow
unfolding sum64
sum64-refused ys h = rw (le-ltb (sum ys) (2 ^ 64) h)

-- The sum of the first i numbers of a slice
pub record Added (ys : List ℕ) (i total : ℕ) : Type 0 where
  pub below : i ≤ length ys
  pub fits : total < 2 ^ 64
  pub held : total ≡ sum (take i ys)

pub added_none : (ys : List ℕ) → Added ys 0 0
unfolding sum
added_none ys = record { below = omega arith; fits = omega arith; held = refl }

module _ {ys : List ℕ} {i total : ℕ} (g : Added ys i total) where
  pub added-all : length ys ≤ i → sum64 ys ≡ value total
  added-all l =
      let e : total ≡ sum ys = g.held ∙ ap sum (take_all i ys l) in
      rw e (sum64-given ys (omega (arith, g.fits)))

  -- the next number is x
  module _ (l : i < length ys) (d : ℕ) {x : ℕ} (e : x ≡ get_or ys i d) where
    next : total + x ≡ sum (take (i + 1) ys)
    next = rw (add-one i, take-suc ys i d l, sum-append (take i ys) (get_or ys i d ∷ []), sum_one (get_or ys i d), ← e, ← g.held)

    pub added_more : {t : ℕ} → t ≡ total + x → t < 2 ^ 64 → Added ys (i + 1) t
    added_more h f = record { below = omega arith; fits = f; held = h ∙ next }

    pub added-over : 2 ^ 64 ≤ total + x → sum64 ys ≡ refused Overflow
    added-over f =
        let s = sum-append (take (i + 1) ys) (drop (i + 1) ys) in
        sum64-refused ys (omega (arith, next, s, ap sum (take-append-drop (i + 1) ys)))

-- The sum of a weight over the first i validators
pub record Summed (w : Validator → ℕ) (n : ℕ) (xs : List ℕ) (i total : ℕ) : Type 0 where
  pub at : Reading n xs i
  pub added : Added (map w (decode xs)) i total

pub summed-none : (w : Validator → ℕ) {n : ℕ} {xs : List ℕ} → length xs ≡ 10 * n → Summed w n xs 0 0
summed-none w {n} {xs} h = record { at = reading_none h; added = added_none (map w (decode xs)) }

module _ {w : Validator → ℕ} {n : ℕ} {xs : List ℕ} {i total : ℕ} (g : Summed w n xs i total) where
  long : length (map w (decode xs)) ≡ n
  long = length-map (decode xs) w ∙ length-decode n xs g.at.long

  pub summed-all : n ≤ i → sum64 (map w (decode xs)) ≡ value total
  summed-all l = added-all g.added (omega (arith, long))

  -- this validator's weight is x
  module _ (l : i < n) {x : ℕ} (e : x ≡ w (decode_one (entry_at xs i))) where
    weight : x ≡ get_or (map w (decode xs)) i (w nobody)
    weight = e ∙ ap w (reading_is g.at l) ∙ sym (get_or-map w (decode xs) i nobody)

    pub summed-more : {t : ℕ} → t ≡ total + x → t < 2 ^ 64 → Summed w n xs (i + 1) t
    summed-more h f = record { at = reading_more g.at l; added = added_more g.added (omega (arith, long)) (w nobody) weight h f }

    pub summed-over : 2 ^ 64 ≤ total + x → sum64 (map w (decode xs)) ≡ refused Overflow
    summed-over f = added-over g.added (omega (arith, long)) (w nobody) weight f

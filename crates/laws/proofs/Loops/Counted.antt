-- A loop that counts those that pass a test.
use mathlib.Core.Path.{◌≡◌, refl, ap, ◌∙◌}
use mathlib.Core.Bool.{Bool, true, false, cond}
use mathlib.Core.List.{List}
use Prim.Native.Nat.{ℕ, ◌+◌, ◌*◌, ◌≤◌, ◌<◌}
use native.Mathlib.Omega.{arith}
use lib.ListN.{length, take}
use Rattle.definitions.specs.Lists.{filter}
use Rattle.definitions.specs.Record.{Validator, decode_one, decode}
use Rattle.laws.proofs.Loops.Entry.{entry_at}
use Rattle.laws.proofs.Loops.Filtered.{filter-last}
use Rattle.laws.proofs.Loops.Reading.{Reading, reading_none, reading_more, prefix_all, prefix_more}

pub record Counted (p : Validator → Bool) (n : ℕ) (xs : List ℕ) (i count : ℕ) : Type 0 where
  pub at : Reading n xs i
  pub most : count ≤ i
  pub held : count ≡ length (filter p (take i (decode xs)))

pub counted_none : (p : Validator → Bool) {n : ℕ} {xs : List ℕ} → length xs ≡ 10 * n → Counted p n xs 0 0
unfolding filter
counted_none p h = record { at = reading_none h; most = omega arith; held = refl }

module _ {p : Validator → Bool} {n : ℕ} {xs : List ℕ} {i count : ℕ} (g : Counted p n xs i count) where
  -- the test of this validator is b
  module _ (l : i < n) {b : Bool} (e : b ≡ p (decode_one (entry_at xs i))) where
    next : count + cond b 1 0 ≡ length (filter p (take (i + 1) (decode xs)))
    next = rw (prefix_more g.at l, filter-last p (take i (decode xs)) (decode_one (entry_at xs i)), ← e, ← g.held)

    pub counted_yes : b ≡ true → Counted p n xs (i + 1) (count + 1)
    counted_yes t = record { at = reading_more g.at l; most = omega arith; held = rw t at next }

    pub counted-no : b ≡ false → Counted p n xs (i + 1) count
    counted-no t = let k : count + 0 ≡ length (filter p (take (i + 1) (decode xs))) = rw t at next in record { at = reading_more g.at l; most = omega arith; held = omega arith }

  pub counted-all : n ≤ i → count ≡ length (filter p (decode xs))
  counted-all l = g.held ∙ ap (λ (t : List Validator). length (filter p t)) (prefix_all g.at l)

-- A loop that carries a number or any other value through the registry: a left fold.
use mathlib.Core.Path.{◌≡◌, refl, ap, ◌∙◌}
use mathlib.Core.List.{List, [], ◌∷◌, foldl, foldl-append}
use Prim.Native.Nat.{ℕ, ◌+◌, ◌*◌, ◌≤◌, ◌<◌}
use lib.ListN.{length, take}
use Rattle.definitions.specs.Record.{Validator, decode_one, decode}
use Rattle.laws.proofs.Loops.Entry.{entry_at}
use Rattle.laws.proofs.Loops.Reading.{Reading, reading_none, reading_ten, reading_more, prefix_all, prefix_more}

pub record Folded {S : Type 0} (f : S → Validator → S) (z : S) (n : ℕ) (xs : List ℕ) (i : ℕ) (s : S) : Type 0 where
  pub at : Reading n xs i
  pub held : s ≡ foldl f z (take i (decode xs))

pub folded-none : {S : Type 0} (f : S → Validator → S) (z : S) {n : ℕ} {xs : List ℕ} → length xs ≡ 10 * n → Folded f z n xs 0 z
folded-none f z h = record { at = reading_none h; held = refl }

module _ {S : Type 0} {f : S → Validator → S} {z : S} {n : ℕ} {xs : List ℕ} {i : ℕ} {s : S} (g : Folded f z n xs i s) where
  pub folded_more : {t : S} → i < n → t ≡ f s (decode_one (entry_at xs i)) → Folded f z n xs (i + 1) t
  folded_more l e =
      let p = foldl-append f z (take i (decode xs)) (decode_one (entry_at xs i) ∷ []) in
      record { at = reading_more g.at l; held = e ∙ rw (prefix_more g.at l, p, ← g.held) }

  pub folded-all : n ≤ i → s ≡ foldl f z (decode xs)
  folded-all l = g.held ∙ ap (foldl f z) (prefix_all g.at l)

-- `search (rules, folding)` answers each need of such a loop that is not plain arithmetic
pub ruleset folding = (folded-none, reading_ten, folded_more, folded-all)

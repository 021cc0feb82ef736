-- A loop that tests every validator, and stops at the first that fails.
use mathlib.Core.Path.{◌≡◌, refl, sym, ap, ◌∙◌}
use mathlib.Core.Bool.{Bool, true, false, ◌&&◌}
use mathlib.Core.List.{List, [], ◌∷◌, ◌++◌}
use Prim.Native.Nat.{ℕ, ◌+◌, ◌*◌, ◌≤◌, ◌<◌}
use native.Mathlib.Omega.{arith}
use lib.ListN.{length, take}
use Rattle.definitions.specs.Lists.{all}
use Rattle.definitions.specs.Record.{Validator, decode_one, decode}
use Rattle.laws.proofs.Loops.Entry.{entry_at}
use Rattle.laws.proofs.Loops.Reading.{Reading, reading_none, reading_more, prefix_all, prefix_more, prefix_rest}

-- those before have passed: what follows decides
pub all_append : {A : Type 0} (p : A → Bool) (us vs : List A) → all p us ≡ true → all p (us ++ vs) ≡ all p vs
unfolding all
all_append p [] vs h = refl
all_append p (u ∷ us) vs h = go (p u) h (all_append p us vs)
  where
    go : (t : Bool) → t && all p us ≡ true → (all p us ≡ true → all p (us ++ vs) ≡ all p vs) → t && all p (us ++ vs) ≡ all p vs
    go true h k = k h
    go false h k = absurd (let z : ◌≡◌ {A = ℕ} 0 1 = cc in omega arith)

all_first : {A : Type 0} (p : A → Bool) (v : A) (vs : List A) → p v ≡ false → all p (v ∷ vs) ≡ false
unfolding all
all_first p v vs h = rw h

all_one : {A : Type 0} (p : A → Bool) (v : A) → p v ≡ true → all p (v ∷ []) ≡ true
unfolding all
all_one p v h = rw h

pub record Tested (p : Validator → Bool) (n : ℕ) (xs : List ℕ) (i : ℕ) : Type 0 where
  pub at : Reading n xs i
  pub held : all p (take i (decode xs)) ≡ true

pub tested-none : (p : Validator → Bool) {n : ℕ} {xs : List ℕ} → length xs ≡ 10 * n → Tested p n xs 0
unfolding all
tested-none p h = record { at = reading_none h; held = refl }

module _ {p : Validator → Bool} {n : ℕ} {xs : List ℕ} {i : ℕ} (g : Tested p n xs i) where
  -- the test of this validator is b
  module _ (l : i < n) {b : Bool} (e : b ≡ p (decode_one (entry_at xs i))) where
    pub tested-more : b ≡ true → Tested p n xs (i + 1)
    tested-more t =
        record { at = reading_more g.at l; held = rw (prefix_more g.at l) (all_append p (take i (decode xs)) _ g.held ∙ all_one p _ (sym e ∙ t)) }

    pub tested-stop : b ≡ false → false ≡ all p (decode xs)
    tested-stop t = sym (ap (all p) (prefix_rest g.at l) ∙ all_append p (take i (decode xs)) _ g.held ∙ all_first p _ _ (sym e ∙ t))

  pub tested-all : n ≤ i → true ≡ all p (decode xs)
  tested-all l = sym g.held ∙ ap (all p) (prefix_all g.at l)

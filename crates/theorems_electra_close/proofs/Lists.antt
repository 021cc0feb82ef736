-- One place of a list that was written.
use mathlib.Core.Path.{◌≡◌, refl, sym, ap, ◌∙◌}
use mathlib.Core.Bool.{Bool, true, false, cond}
use mathlib.Core.List.{List, [], ◌∷◌, ◌++◌}
use Prim.Native.Nat.{ℕ, zero, suc, ◌+◌, ◌%◌, ◌^◌, ◌<◌}
use native.Mathlib.Omega.{arith}
use borrow.Author.Tests.{eqb-true, eqb-false}
use lib.Dec.{eqb}
use lib.ListN.{length, get_or, set}
use lib.Seq.{get_or-set_same, get_or-set_other}
use Rattle.definitions_electra_close.specs.Amounts.{add_at}
use Rattle.theorems_electra_close.specs.Accounted.{plain_at}

-- i is written, or another
pub set_at : {A : Type 0} (d : A) (xs : List A) (j : ℕ) (x : A) (i : ℕ) → i < length xs → get_or (set xs j x) i d ≡ cond (eqb i j) x (get_or xs i d)
set_at {A} d xs j x i l = go (eqb i j) refl
  where
    go : (t : Bool) → eqb i j ≡ t → get_or (set xs j x) i d ≡ cond t x (get_or xs i d)
    go true e = let q = eqb-true i j e in rw q (get_or-set_same xs j x d (rw q at l))
    go false e = get_or-set_other xs j i x d (eqb-false i j e)

pub front_at : {A : Type 0} (d : A) (xs ys : List A) (i : ℕ) → i < length xs → get_or (xs ++ ys) i d ≡ get_or xs i d
front_at d [] ys i l = absurd (omega arith)
front_at d (x ∷ xs) ys zero l = refl
front_at d (x ∷ xs) ys (suc i) l = front_at d xs ys i (omega arith)

-- what i gets of an x that j gets
abbrev pub share : ℕ → ℕ → ℕ → ℕ
share j x i = cond (eqb i j) x 0

pub plain_at_lem : (xs : List ℕ) (j x i : ℕ) → i < length xs → get_or (plain_at xs j x) i 0 ≡ get_or xs i 0 + share j x i
plain_at_lem xs j x i l = set_at 0 xs j (get_or xs j 0 + x) i l ∙ go (eqb i j) refl
  where
    go : (t : Bool) → eqb i j ≡ t → cond t (get_or xs j 0 + x) (get_or xs i 0) ≡ get_or xs i 0 + cond t x 0
    go true e = let q = eqb-true i j e in rw q refl
    go false e = omega arith

-- sums cut to 64 bits, of sums
pub cut_at : (xs ys : List ℕ) (j x i : ℕ) → i < length xs → i < length ys → ((k : ℕ) → k < length xs → get_or xs k 0 ≡ get_or ys k 0 % (2 ^ 64)) → get_or (add_at xs j x) i 0 ≡ get_or (plain_at ys j x) i 0 % (2 ^ 64)
cut_at xs ys j x i l m h = set_at 0 xs j ((get_or xs j 0 + x) % (2 ^ 64)) i l ∙ go (eqb i j) refl ∙ ap (λ (y : ℕ). y % (2 ^ 64)) (sym (plain_at_lem ys j x i m))
  where
    go : (t : Bool) → eqb i j ≡ t → cond t ((get_or xs j 0 + x) % (2 ^ 64)) (get_or xs i 0) ≡ (get_or ys i 0 + cond t x 0) % (2 ^ 64)
    go true e = let q = eqb-true i j e in let c = h i l in rw (← q) (omega (arith, c))
    go false e = let c = h i l in omega (arith, c)

-- A rising list: what is inserted is listed, nothing else comes in, and it stays rising.
use mathlib.Core.Path.{◌≡◌, refl, ap, ◌∙◌}
use mathlib.Core.Bool.{Bool, true, false, cond, ◌||◌}
use mathlib.Core.List.{List, [], ◌∷◌}
use Prim.Native.Nat.{ℕ, ◌<◌}
use native.Mathlib.Omega.{arith}
use borrow.Author.Tests.{ltb-true, ltb-false, eqb-true, eqb-false, lt-ltb}
use lib.Dec.{ltb, eqb}
use Rattle.definitions.specs.Lists.{all}
use Rattle.definitions_votes.specs.Exact.{among, rising}
use Rattle.definitions_votes.specs.Votes.{insert_rising, sorted_once}
use Rattle.laws.proofs.Tests.{or_swap, and_both, both}

or_same : (a c : Bool) → (a || c) ≡ (a || (a || c))
or_same true c = refl
or_same false c = refl

pub among-insert : (z e : ℕ) (xs : List ℕ) → among z (insert_rising e xs) ≡ (eqb z e || among z xs)
unfolding among insert_rising
among-insert z e [] = refl
among-insert z e (x ∷ xs) = go (ltb e x) (eqb e x) refl (among-insert z e xs)
  where
    go : (t u : Bool) → eqb e x ≡ u → among z (insert_rising e xs) ≡ (eqb z e || among z xs) → among z (cond t (e ∷ x ∷ xs) (cond u (x ∷ xs) (x ∷ insert_rising e xs))) ≡ (eqb z e || (eqb z x || among z xs))
    go true u p h = refl
    go false true p h = rw (eqb-true e x p) (or_same (eqb z x) (among z xs))
    go false false p h = ap (λ (t : Bool). eqb z x || t) h ∙ or_swap (eqb z x) (eqb z e) (among z xs)

all_insert : (q : ℕ → Bool) (e : ℕ) (xs : List ℕ) → q e ≡ true → all q xs ≡ true → all q (insert_rising e xs) ≡ true
unfolding all insert_rising
all_insert q e [] h k = and_both h refl
all_insert q e (x ∷ xs) h k = let p = both (q x) (all q xs) k in go (ltb e x) (eqb e x) p (all_insert q e xs h p.1)
  where
    go : (t u : Bool) → (q x ≡ true) × (all q xs ≡ true) → all q (insert_rising e xs) ≡ true → all q (cond t (e ∷ x ∷ xs) (cond u (x ∷ xs) (x ∷ insert_rising e xs))) ≡ true
    go true u p r = and_both h (and_both p.0 p.1)
    go false true p r = and_both p.0 p.1
    go false false p r = and_both p.0 r

all-below : (e x : ℕ) (xs : List ℕ) → e < x → all (ltb x) xs ≡ true → all (ltb e) xs ≡ true
unfolding all
all-below e x [] l h = refl
all-below e x (y ∷ ys) l h =
    let p = both (ltb x y) (all (ltb x) ys) h in
    and_both (lt-ltb e y (omega (arith, ltb-true x y p.0))) (all-below e x ys l p.1)

pub rising-insert : (e : ℕ) (xs : List ℕ) → rising xs ≡ true → rising (insert_rising e xs) ≡ true
unfolding rising insert_rising all
rising-insert e [] h = refl
rising-insert e (x ∷ xs) h =
    let p = both (all (ltb x) xs) (rising xs) h in
    go (ltb e x) refl (eqb e x) refl p (rising-insert e xs p.1)
  where
    go : (t : Bool) → ltb e x ≡ t → (u : Bool) → eqb e x ≡ u → (all (ltb x) xs ≡ true) × (rising xs ≡ true) → rising (insert_rising e xs) ≡ true → rising (cond t (e ∷ x ∷ xs) (cond u (x ∷ xs) (x ∷ insert_rising e xs))) ≡ true
    go true a u b p r = and_both (and_both a (all-below e x xs (ltb-true e x a) p.0)) h
    go false a true b p r = h
    go false a false b p r =
        let n = eqb-false e x b in
        and_both (all_insert (ltb x) e xs (lt-ltb x e (omega (arith, ltb-false e x a))) p.0) r

pub sorted-rising : (xs : List ℕ) → rising (sorted_once xs) ≡ true
unfolding sorted_once rising
sorted-rising [] = refl
sorted-rising (x ∷ xs) = rising-insert x (sorted_once xs) (sorted-rising xs)

pub sorted-among : (z : ℕ) (xs : List ℕ) → among z (sorted_once xs) ≡ among z xs
unfolding sorted_once among
sorted-among z [] = refl
sorted-among z (x ∷ xs) = among-insert z x (sorted_once xs) ∙ ap (λ (t : Bool). eqb z x || t) (sorted-among z xs)

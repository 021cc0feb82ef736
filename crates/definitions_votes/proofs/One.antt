-- The quantified statement has one answer.
use mathlib.Core.Path.{◌≡◌, refl, sym, ap, ◌∙◌}
use mathlib.Core.Logic.{◌⊎◌, inl, inr}
use mathlib.Core.Bool.{Bool, true, false, ◌||◌}
use mathlib.Core.List.{List, [], ◌∷◌}
use Prim.Native.Nat.{ℕ, ◌≤◌, ◌<◌}
use native.Mathlib.Omega.{arith}
use native.Mathlib.Decide.{dec_le}
use borrow.Author.Tests.{ltb-true, eqb-true, eq-eqb}
use lib.Dec.{ltb, eqb}
use Rattle.definitions.specs.Lists.{all}
use Rattle.definitions.specs.Checked.{Checked, value}
use Rattle.laws.proofs.Checked.{value_same}
use Rattle.definitions_votes.specs.Filling.{Filling, none_set, all_set}
use Rattle.definitions_votes.specs.Exact.{Ballot, current_of, roots_found, Verdict, none, some, every, Outcome, Holds, among, rising, Told}
use Rattle.definitions_votes.specs.Votes.{votes}
use Rattle.definitions_votes.specs.Laws.{OneAnswer}
use Rattle.definitions_votes.proofs.Core.{never}
use Rattle.definitions_votes.proofs.Exact.{exact, Given, Over, either, never-over}
use Rattle.laws.proofs.Tests.{both}

-- one of the list: the first, or a later one
among-parts : (e x : ℕ) (xs : List ℕ) → among e (x ∷ xs) ≡ true → (e ≡ x) ⊎ (among e xs ≡ true)
unfolding among
among-parts e x xs h = go (eqb e x) refl h
  where
    go : (t : Bool) → eqb e x ≡ t → (t || among e xs) ≡ true → (e ≡ x) ⊎ (among e xs ≡ true)
    go true p h = inl (eqb-true e x p)
    go false p h = inr h

pub among_first : (x : ℕ) (xs : List ℕ) → among x (x ∷ xs) ≡ true
unfolding among
among_first x xs = rw (eq-eqb x x refl)

pub among_later : (e x : ℕ) (xs : List ℕ) → among e xs ≡ true → among e (x ∷ xs) ≡ true
unfolding among
among_later e x xs h = rw h (go (eqb e x))
  where
    go : (t : Bool) → (t || true) ≡ true
    go true = refl
    go false = refl

-- what follows is above
pub above : (x e : ℕ) (xs : List ℕ) → all (ltb x) xs ≡ true → among e xs ≡ true → x < e
unfolding all among
above x e [] h k = never k
above x e (y ∷ ys) h k = let p = both (ltb x y) (all (ltb x) ys) h in go (among-parts e y ys k) p (λ q. above x e ys p.1 q)
  where
    go : (e ≡ y) ⊎ (among e ys ≡ true) → (ltb x y ≡ true) × (all (ltb x) ys ≡ true) → (among e ys ≡ true → x < e) → x < e
    go (inl q) p r = omega (arith, q, ltb-true x y p.0)
    go (inr q) p r = r q

pub rising-parts : (x : ℕ) (xs : List ℕ) → rising (x ∷ xs) ≡ true → (all (ltb x) xs ≡ true) × (rising xs ≡ true)
unfolding rising
rising-parts x xs h = both (all (ltb x) xs) (rising xs) h

none-among : (e : ℕ) → among e [] ≡ true → ⊥
unfolding among
none-among e h = never h

-- two rising lists of the same numbers
same-list : (xs ys : List ℕ) → rising xs ≡ true → rising ys ≡ true → ((e : ℕ) → among e xs ≡ true → among e ys ≡ true) → ((e : ℕ) → among e ys ≡ true → among e xs ≡ true) → xs ≡ ys
same-list [] [] h k f g = refl
same-list [] (y ∷ ys) h k f g = absurd (none-among y (g y (among_first y ys)))
same-list (x ∷ xs) [] h k f g = absurd (none-among x (f x (among_first x xs)))
same-list (x ∷ xs) (y ∷ ys) h k f g =
    let p = rising-parts x xs h in
    let q = rising-parts y ys k in
    let e = first (among-parts x y ys (f x (among_first x xs))) (among-parts y x xs (g y (among_first y ys))) p.0 q.0 in
    rw (e, same-list xs ys p.1 q.1 (λ z a. drop-first z x y ys (omega (arith, above x z xs p.0 a, e)) (f z (among_later z x xs a))) (λ z a. drop-first z y x xs (omega (arith, above y z ys q.0 a, e)) (g z (among_later z y ys a))))
  where
    first : (x ≡ y) ⊎ (among x ys ≡ true) → (y ≡ x) ⊎ (among y xs ≡ true) → all (ltb x) xs ≡ true → all (ltb y) ys ≡ true → x ≡ y
    first (inl e) b p q = e
    first (inr a) (inl e) p q = sym e
    first (inr a) (inr b) p q = absurd (omega (arith, above y x ys q a, above x y xs p b))

    drop-first : (z x y : ℕ) (ys : List ℕ) → y < z → among z (y ∷ ys) ≡ true → among z ys ≡ true
    drop-first z x y ys l a = go (among-parts z y ys a)
      where
        go : (z ≡ y) ⊎ (among z ys ≡ true) → among z ys ≡ true
        go (inl e) = absurd (omega arith)
        go (inr b) = b

-- one verdict of a test
apart : {m : Checked Bool} → m ≡ value true → m ≡ value false → ⊥
apart p q = never (value_same (sym q ∙ p))

same-verdict : (test : Filling → Checked Bool) (v w : Verdict) → Holds v test → Holds w test → v ≡ w
same-verdict test none none h k = refl
same-verdict test none some h k = absurd (apart k.0.1 (h k.0.0))
same-verdict test none every h k = absurd (apart (k none_set) (h none_set))
same-verdict test some none h k = absurd (apart h.0.1 (k h.0.0))
same-verdict test some some h k = refl
same-verdict test some every h k = absurd (apart (k h.1.0) h.1.1)
same-verdict test every none h k = absurd (apart (h none_set) (k none_set))
same-verdict test every some h k = absurd (apart (h k.1.0) k.1.1)
same-verdict test every every h k = refl

same_outcome : (b : Ballot) {m n : Checked Outcome} → Told b m → Told b n → m ≡ n
same_outcome b s t = s.is ∙ ap value (same s.outcome t.outcome (same-list _ _ s.epochs.in_order t.epochs.in_order (λ e a. t.epochs.listed e (s.epochs.reached e a)) (λ e a. s.epochs.listed e (t.epochs.reached e a))) (same-verdict _ _ _ s.previous t.previous) (same-verdict _ _ _ s.current t.current)) ∙ sym t.is
  where
    same : (o p : Outcome) → o.epochs ≡ p.epochs → o.previous ≡ p.previous → o.current ≡ p.current → o ≡ p
    same o p e f g = rw (e, f, g)

pub one_answer : OneAnswer
one_answer b m h = go (dec_le (current_of b) 1)
  where
    whole : 1 < current_of b → (t : Bool) → roots_found b ≡ t → m ≡ votes b
    whole l false r = h.missing l r ∙ sym ((exact b).missing l r)
    whole l true r = ends (either b l r)
      where
        ends : Given b l r ⊎ Over b l r → m ≡ votes b
        ends (inl g) = same_outcome b (h.told l r (never-over b l r g)) ((exact b).told l r (never-over b l r g))
        ends (inr o) = h.over l r all_set o.step ∙ sym ((exact b).over l r all_set o.step)

    go : Dec (current_of b ≤ 1) → m ≡ votes b
    go (yes l) = h.early l ∙ sym ((exact b).early l)
    go (no l) = whole (omega arith) (roots_found b) refl

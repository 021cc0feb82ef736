-- The first c of a sorted list are those with fewer than c before them: for any strict total order on numbers.
use mathlib.Core.Path.{◌≡◌, refl, sym, ap, ap₂, ◌∙◌, subst}
use mathlib.Core.Bool.{Bool, true, false, cond, ◌&&◌, ◌||◌, and-false}
use mathlib.Core.List.{List, [], ◌∷◌}
use Prim.Native.Nat.{ℕ, zero, suc, ◌+◌, ◌≤◌, ◌<◌}
use native.Mathlib.Decide.{ℕ_discrete}
use native.Mathlib.Omega.{arith}
use borrow.Author.Tests.{eq-eqb, ne_eqb, lt-ltb, le-ltb}
use lib.Dec.{T, ltb, eqb, eqb→eq, leb-suc-suc}
use lib.ListN.{length, take}
use Rattle.definitions.specs.Lists.{filter, range, insert, sorted}
use Rattle.laws.proofs.ActivationQueue.Filter.{count-more}
use Rattle.laws.proofs.Tests.{or_swap}

-- nothing is before itself, what is before what is before comes before, and of two different numbers one is before the other
pub record StrictTotal (before : ℕ → ℕ → Bool) : Type 0 where
  pub irreflexive : (i : ℕ) → T (before i i) → ⊥
  pub transitive : (i j k : ℕ) → T (before i j) → T (before j k) → T (before i k)
  pub total : (i j : ℕ) → (i ≡ j → ⊥) → (T (before i j) → ⊥) → T (before j i)

abbrev pub among : ℕ → List ℕ → Bool
among i [] = false
among i (x ∷ xs) = eqb i x || among i xs

abbrev All : (ℕ → Type 0) → List ℕ → Type 0
All P [] = Unit {0}
All P (x ∷ xs) = P x × All P xs

abbrev Distinct : List ℕ → Type 0
Distinct [] = Unit {0}
Distinct (x ∷ xs) = All (λ y. x ≡ y → ⊥) xs × Distinct xs

weaken : (P Q : ℕ → Type 0) → ((j : ℕ) → P j → Q j) → (xs : List ℕ) → All P xs → All Q xs
weaken P Q f [] h = tt
weaken P Q f (x ∷ xs) h = (f x h.0, weaken P Q f xs h.1)

all_among : (P : ℕ → Type 0) (i : ℕ) (xs : List ℕ) → All P xs → T (among i xs) → P i
all_among P i [] h t = absurd t
all_among P i (x ∷ xs) h t = go (eqb i x) (eqb→eq i x) t (all_among P i xs h.1)
  where
    go : (b : Bool) → (T b → i ≡ x) → T (b || among i xs) → (T (among i xs) → P i) → P i
    go true e t k = subst P (sym (e tt)) h.0
    go false e t k = k t

-- filter

none_pass : (p : ℕ → Bool) (xs : List ℕ) → All (λ y. T (p y) → ⊥) xs → length (filter p xs) ≡ 0
unfolding filter
none_pass p [] h = refl
none_pass p (x ∷ xs) h = count-more p x xs ∙ go (p x) h.0 ∙ none_pass p xs h.1
  where
    go : (b : Bool) → (T b → ⊥) → cond b 1 0 + length (filter p xs) ≡ length (filter p xs)
    go true n = absurd (n tt)
    go false n = omega arith

all_filter : (P : ℕ → Type 0) (p : ℕ → Bool) (xs : List ℕ) → All P xs → All P (filter p xs)
unfolding filter
all_filter P p [] h = tt
all_filter P p (x ∷ xs) h = go (p x) (all_filter P p xs h.1)
  where
    go : (b : Bool) → All P (filter p xs) → All P (cond b (x ∷ filter p xs) (filter p xs))
    go true k = (h.0, k)
    go false k = k

distinct_filter : (p : ℕ → Bool) (xs : List ℕ) → Distinct xs → Distinct (filter p xs)
unfolding filter
distinct_filter p [] h = tt
distinct_filter p (x ∷ xs) h = go (p x) (distinct_filter p xs h.1)
  where
    go : (b : Bool) → Distinct (filter p xs) → Distinct (cond b (x ∷ filter p xs) (filter p xs))
    go true k = (all_filter (λ y. x ≡ y → ⊥) p xs h.0, k)
    go false k = k

among-filter : (i : ℕ) (p : ℕ → Bool) (xs : List ℕ) → among i (filter p xs) ≡ (among i xs && p i)
unfolding filter
among-filter i p [] = refl
among-filter i p (x ∷ xs) = go (ℕ_discrete i x) (p x) refl (among-filter i p xs)
  where
    go : Dec (i ≡ x) → (b : Bool) → p x ≡ b → among i (filter p xs) ≡ (among i xs && p i) → among i (cond b (x ∷ filter p xs) (filter p xs)) ≡ ((eqb i x || among i xs) && p i)
    go (yes e) true q k = rw (eq-eqb i x e) (sym (ap p e ∙ q))
    go (yes e) false q k = rw (eq-eqb i x e) (k ∙ rw (ap p e ∙ q) (and-false (among i xs)))
    go (no n) true q k = rw (ne_eqb i x n) k
    go (no n) false q k = rw (ne_eqb i x n) k

filter-filter : (p q : ℕ → Bool) (xs : List ℕ) → length (filter q (filter p xs)) ≡ length (filter (λ j. p j && q j) xs)
unfolding filter
filter-filter p q [] = refl
filter-filter p q (x ∷ xs) = go (p x) (filter-filter p q xs)
  where
    go : (b : Bool) → length (filter q (filter p xs)) ≡ length (filter (λ j. p j && q j) xs) → length (filter q (cond b (x ∷ filter p xs) (filter p xs))) ≡ length (cond (b && q x) (x ∷ filter (λ j. p j && q j) xs) (filter (λ j. p j && q j) xs))
    go true k = count-more q x (filter p xs) ∙ at (q x)
      where
        at : (b : Bool) → cond b 1 0 + length (filter q (filter p xs)) ≡ length (cond b (x ∷ filter (λ j. p j && q j) xs) (filter (λ j. p j && q j) xs))
        at true = omega arith
        at false = omega arith
    go false k = k

-- range

all-range : (k n : ℕ) → All (λ y. k ≤ y) (range k n)
unfolding range
all-range k zero = tt
all-range k (suc n) = (omega arith, weaken (λ y. suc k ≤ y) (λ y. k ≤ y) (λ y l. omega arith) (range (suc k) n) (all-range (suc k) n))

distinct_range : (k n : ℕ) → Distinct (range k n)
unfolding range
distinct_range k zero = tt
distinct_range k (suc n) = (weaken (λ y. suc k ≤ y) (λ y. k ≡ y → ⊥) (λ y l e. absurd (omega arith)) (range (suc k) n) (all-range (suc k) n), distinct_range (suc k) n)

among-range : (i k n : ℕ) → k ≤ i → i < k + n → among i (range k n) ≡ true
unfolding range
among-range i k zero l m = absurd (omega arith)
among-range i k (suc n) l m = go (ℕ_discrete i k) (λ a. among-range i (suc k) n a (omega arith))
  where
    go : Dec (i ≡ k) → (suc k ≤ i → among i (range (suc k) n) ≡ true) → (eqb i k || among i (range (suc k) n)) ≡ true
    go (yes e) h = rw (eq-eqb i k e)
    go (no d) h = rw (ne_eqb i k d) (h (omega arith))

-- sorted
module _ (before : ℕ → ℕ → Bool) where
  all_insert : (P : ℕ → Type 0) (x : ℕ) (ys : List ℕ) → P x → All P ys → All P (insert before x ys)
  unfolding insert
  all_insert P x [] p h = (p, tt)
  all_insert P x (y ∷ ys) p h = go (before x y) (all_insert P x ys p h.1)
    where
      go : (b : Bool) → All P (insert before x ys) → All P (cond b (x ∷ y ∷ ys) (y ∷ insert before x ys))
      go true k = (p, h)
      go false k = (h.0, k)

  among-insert : (i x : ℕ) (ys : List ℕ) → among i (insert before x ys) ≡ (eqb i x || among i ys)
  unfolding insert
  among-insert i x [] = refl
  among-insert i x (y ∷ ys) = go (before x y) (among-insert i x ys)
    where
      go : (b : Bool) → among i (insert before x ys) ≡ (eqb i x || among i ys) → among i (cond b (x ∷ y ∷ ys) (y ∷ insert before x ys)) ≡ (eqb i x || (eqb i y || among i ys))
      go true k = refl
      go false k = ap (λ (z : Bool). eqb i y || z) k ∙ or_swap (eqb i y) (eqb i x) (among i ys)

  filter-insert : (p : ℕ → Bool) (x : ℕ) (ys : List ℕ) → length (filter p (insert before x ys)) ≡ length (filter p (x ∷ ys))
  unfolding insert
  filter-insert p x [] = refl
  filter-insert p x (y ∷ ys) = go (before x y) (filter-insert p x ys)
    where
      go : (b : Bool) → length (filter p (insert before x ys)) ≡ length (filter p (x ∷ ys)) → length (filter p (cond b (x ∷ y ∷ ys) (y ∷ insert before x ys))) ≡ length (filter p (x ∷ y ∷ ys))
      go true k = refl
      go false k = omega (arith, k, count-more p y (insert before x ys), count-more p x (y ∷ ys), count-more p y ys, count-more p x ys)

  all-sorted : (P : ℕ → Type 0) (xs : List ℕ) → All P xs → All P (sorted before xs)
  unfolding sorted
  all-sorted P [] h = tt
  all-sorted P (x ∷ xs) h = all_insert P x (sorted before xs) h.0 (all-sorted P xs h.1)

  among-sorted : (i : ℕ) (xs : List ℕ) → among i (sorted before xs) ≡ among i xs
  unfolding sorted
  among-sorted i [] = refl
  among-sorted i (x ∷ xs) = among-insert i x (sorted before xs) ∙ ap (λ (z : Bool). eqb i x || z) (among-sorted i xs)

  filter-sorted : (p : ℕ → Bool) (xs : List ℕ) → length (filter p (sorted before xs)) ≡ length (filter p xs)
  unfolding sorted
  filter-sorted p [] = refl
  filter-sorted p (x ∷ xs) = filter-insert p x (sorted before xs) ∙ omega (arith, count-more p x (sorted before xs), count-more p x xs, filter-sorted p xs)

  abbrev Sorted : List ℕ → Type 0
  Sorted [] = Unit {0}
  Sorted (x ∷ xs) = All (λ y. T (before x y)) xs × Sorted xs

  module _ (order : StrictTotal before) where
    sorted_insert : (x : ℕ) (ys : List ℕ) → All (λ y. x ≡ y → ⊥) ys → Sorted ys → Sorted (insert before x ys)
    unfolding insert
    sorted_insert x [] d h = (tt, tt)
    sorted_insert x (y ∷ ys) d h = go (before x y) (λ t. t) (order.total x y d.0) (sorted_insert x ys d.1 h.1)
      where
        go : (b : Bool) → (T b → T (before x y)) → ((T b → ⊥) → T (before y x)) → Sorted (insert before x ys) → Sorted (cond b (x ∷ y ∷ ys) (y ∷ insert before x ys))
        go true m n k = ((m tt, weaken (λ z. T (before y z)) (λ z. T (before x z)) (λ z u. order.transitive x y z (m tt) u) ys h.0), h)
        go false m n k = (all_insert (λ z. T (before y z)) x ys (n (λ z. z)) h.0, k)

    sorted-sorted : (xs : List ℕ) → Distinct xs → Sorted (sorted before xs)
    unfolding sorted
    sorted-sorted [] d = tt
    sorted-sorted (x ∷ xs) d = sorted_insert x (sorted before xs) (all-sorted (λ y. x ≡ y → ⊥) xs d.0) (sorted-sorted xs d.1)

    -- in a sorted list
    rank-within : (i c : ℕ) (xs : List ℕ) → Sorted xs → among i (take c xs) ≡ (among i xs && ltb (length (filter (λ j. before j i) xs)) c)
    rank-within i zero xs h = sym (rw (le-ltb (length (filter (λ j. before j i) xs)) 0 (omega arith)) (and-false (among i xs)))
    rank-within i (suc c) [] h = refl
    rank-within i (suc c) (x ∷ xs) h = go (ℕ_discrete i x) (rank-within i c xs h.1)
      where
        go : Dec (i ≡ x) → among i (take c xs) ≡ (among i xs && ltb (length (filter (λ j. before j i) xs)) c) → (eqb i x || among i (take c xs)) ≡ ((eqb i x || among i xs) && ltb (length (filter (λ j. before j i) (x ∷ xs))) (suc c))
        go (yes e) ih = rw (eq-eqb i x e, none) (sym (lt-ltb 0 (suc c) (omega arith)))
          where
            none : length (filter (λ j. before j i) (x ∷ xs)) ≡ 0
            none =
                none_pass (λ j. before j i) (x ∷ xs) (
                  λ t. order.irreflexive x (subst (λ (z : ℕ). T (before x z)) e t),
                  weaken (λ y. T (before x y)) (λ y. T (before y i) → ⊥) (λ y u t. order.irreflexive x (subst (λ (z : ℕ). T (before x z)) e (order.transitive x y i u t))) xs h.0,
                )
        go (no n) ih = rw (ne_eqb i x n) (ih ∙ at (among i xs) (all_among (λ y. T (before x y)) i xs h.0))
          where
            one : (d : Bool) → T d → ◌≡◌ {A = ℕ} (cond d 1 0) 1
            one true u = refl
            one false u = absurd u

            at : (b : Bool) → (T b → T (before x i)) → (b && ltb (length (filter (λ j. before j i) xs)) c) ≡ (b && ltb (length (filter (λ j. before j i) (x ∷ xs))) (suc c))
            at true u =
                let k : length (filter (λ j. before j i) (x ∷ xs)) ≡ suc (length (filter (λ j. before j i) xs)) = omega (arith, count-more (λ j. before j i) x xs, one (before x i) (u tt)) in
                rw k (sym (leb-suc-suc (suc (length (filter (λ j. before j i) xs))) c))
            at false u = refl

    -- of different numbers
    rank_distinct : (i c : ℕ) (xs : List ℕ) → Distinct xs → among i (take c (sorted before xs)) ≡ (among i xs && ltb (length (filter (λ j. before j i) xs)) c)
    rank_distinct i c xs d =
        rank-within i c (sorted before xs) (sorted-sorted xs d) ∙ ap₂ (λ (a : Bool) (n : ℕ). a && ltb n c) (among-sorted i xs) (filter-sorted (λ j. before j i) xs)

    -- of the numbers below n that pass p
    pub rank : (p : ℕ → Bool) (n i c : ℕ) → i < n → among i (take c (sorted before (filter p (range 0 n)))) ≡ (p i && ltb (length (filter (λ j. p j && before j i) (range 0 n))) c)
    rank p n i c l =
        rank_distinct i c (filter p (range 0 n)) (distinct_filter p (range 0 n) (distinct_range 0 n))
        ∙ ap₂ (λ (a : Bool) (m : ℕ). a && ltb m c) member (filter-filter p (λ j. before j i) (range 0 n))
      where
        member : among i (filter p (range 0 n)) ≡ p i
        member = among-filter i p (range 0 n) ∙ rw (among-range i 0 n (omega arith) (omega arith))

-- Counting the numbers below n that pass a test, and the front of a queue.
use mathlib.Core.Path.{◌≡◌, refl, sym, ap, ◌∙◌, subst}
use mathlib.Core.Bool.{Bool, true, false, not, ◌&&◌}
use mathlib.Core.List.{[]}
use Prim.Native.Nat.{ℕ, zero, suc, ◌+◌, ◌≤◌, ◌<◌}
use native.Mathlib.Nat.{le_trans, le_antisymm}
use native.Mathlib.Decide.{dec_lt}
use native.Mathlib.Omega.{arith}
use lib.Dec.{T, not_T, ltb, nltb→le}
use lib.ListN.{length}
use Rattle.definitions.specs.Lists.{filter, range}
use Rattle.laws.proofs.ActivationQueue.Filter.{flag, count-more}
use Rattle.laws.proofs.ActivationQueue.Rank.{StrictTotal}
use Rattle.laws.proofs.Tests.{and_T, T_left, T_right}

pub T_dec : (b : Bool) → Dec (T b)
T_dec true = yes tt
T_dec false = no (λ x. x)

-- how many of the numbers below n pass a test
unfoldable pub how_many : (ℕ → Bool) → ℕ → ℕ
how_many p n = length (filter p (range 0 n))

how_zero : (p : ℕ → Bool) → how_many p 0 ≡ 0
unfolding how_many filter range
how_zero p = refl

how_last : (p : ℕ → Bool) (n k : ℕ) → length (filter p (range k (suc n))) ≡ flag (p (n + k)) + length (filter p (range k n))
unfolding range
how_last p zero k = count-more p k [] ∙ ap (λ (x : ℕ). flag (p x) + length (filter p [])) (omega arith)
how_last p (suc n) k =
    let e : n + suc k ≡ suc n + k = omega arith in
    omega (arith, count-more p k (range (suc k) (suc n)), how_last p n (suc k), count-more p k (range (suc k) n), ap (λ (x : ℕ). flag (p x)) e)

how_suc : (p : ℕ → Bool) (n : ℕ) → how_many p (suc n) ≡ flag (p n) + how_many p n
unfolding how_many
how_suc p n = how_last p n 0 ∙ ap (λ (x : ℕ). flag (p x) + length (filter p (range 0 n))) (omega arith)

plus_le : (a b : Bool) {x y : ℕ} → (T a → T b) → x ≤ y → flag a + x ≤ flag b + y
plus_le true true h l = omega arith
plus_le true false h l = absurd (h tt)
plus_le false true h l = omega arith
plus_le false false h l = omega arith

plus_none : (a : Bool) {x : ℕ} → (T a → ⊥) → flag a + x ≡ x
plus_none true h = absurd (h tt)
plus_none false h = omega arith

pub count_mono : (p q : ℕ → Bool) (n : ℕ) → ((j : ℕ) → j < n → T (p j) → T (q j)) → how_many p n ≤ how_many q n
count_mono p q zero h = rw (how_zero p) (omega arith)
count_mono p q (suc n) h =
    rw (how_suc p n, how_suc q n) (plus_le (p n) (q n) (h n (omega arith)) (count_mono p q n (λ j l. h j (omega arith))))

pub count_same : (p q : ℕ → Bool) (n : ℕ) → ((j : ℕ) → j < n → p j ≡ q j) → how_many p n ≡ how_many q n
count_same p q n h = le_antisymm (count_mono p q n (λ j l t. subst T (h j l) t)) (count_mono q p n (λ j l t. subst T (sym (h j l)) t))

count_none : (p : ℕ → Bool) (n : ℕ) → ((j : ℕ) → j < n → T (p j) → ⊥) → how_many p n ≡ 0
count_none p zero h = how_zero p
count_none p (suc n) h = how_suc p n ∙ plus_none (p n) (h n (omega arith)) ∙ count_none p n (λ j l. h j (omega arith))

count_grow : (p : ℕ → Bool) (n m : ℕ) → n ≤ m → how_many p n ≤ how_many p m
count_grow p zero m l = rw (how_zero p) (omega arith)
count_grow p (suc n) zero l = absurd (omega arith)
count_grow p (suc n) (suc m) l = elim (dec_lt n m) [ yes k ↦ le_trans (count_grow p (suc n) m k) (omega (arith, how_suc p m)) | no k ↦ omega (arith, ap (how_many p) (same n m l k)) ]
  where
    same : (n m : ℕ) → suc n ≤ suc m → (n < m → ⊥) → suc n ≡ suc m
    same n m l k = omega arith

-- what passes p passes q and is below m
pub count_le : (p q : ℕ → Bool) (n m : ℕ) → ((j : ℕ) → T (p j) → (j < m) × T (q j)) → how_many p n ≤ how_many q m
count_le p q zero m h = rw (how_zero p) (omega arith)
count_le p q (suc n) m h = go (dec_lt n m) (count_le p q n m h)
  where
    go : Dec (n < m) → how_many p n ≤ how_many q m → how_many p (suc n) ≤ how_many q m
    go (yes k) ih = le_trans (count_mono p q (suc n) (λ j l t. (h j t).1)) (count_grow q (suc n) m k)
    go (no k) ih = rw (how_suc p n, plus_none (p n) {x = how_many p n} (λ t. k (h n t).0)) ih

pub count-split : (p q : ℕ → Bool) (n : ℕ) → how_many p n ≡ how_many (λ j. p j && q j) n + how_many (λ j. p j && not (q j)) n
count-split p q zero = rw (how_zero p, how_zero (λ j. p j && q j), how_zero (λ j. p j && not (q j))) (omega arith)
count-split p q (suc n) =
    rw (how_suc p n, how_suc (λ j. p j && q j) n, how_suc (λ j. p j && not (q j)) n) (go (p n) (q n) _ _ _ (count-split p q n))
  where
    go : (a b : Bool) (x y z : ℕ) → x ≡ y + z → flag a + x ≡ (flag (a && b) + y) + (flag (a && not b) + z)
    go true true x y z e = omega arith
    go true false x y z e = omega arith
    go false b x y z e = omega arith

data Least (p : ℕ → Bool) (lt : ℕ → ℕ → Bool) (n : ℕ) : Type 0 where
  nothing : ((j : ℕ) → j < n → T (p j) → ⊥) → Least p lt n
  first : (b : ℕ) → b < n → T (p b) → ((j : ℕ) → j < n → T (p j) → T (lt j b) → ⊥) → Least p lt n

module _ (lt : ℕ → ℕ → Bool) (st : StrictTotal lt) where
  -- a claim below n and at n is one below n + 1
  also : (P : ℕ → Type 0) (n : ℕ) → ((j : ℕ) → j < n → P j) → P n → (j : ℕ) → j < suc n → P j
  also P n h z j l = elim (dec_lt j n) [ yes k ↦ h j k | no k ↦ subst P (same j n l k) z ]
    where
      same : (j n : ℕ) → j < suc n → (j < n → ⊥) → n ≡ j
      same j n l k = omega arith

  least : (p : ℕ → Bool) (n : ℕ) → Least p lt n
  least p zero = nothing (λ j l. absurd (omega arith))
  least p (suc n) = go (least p n) (T_dec (p n))
    where
      go : Least p lt n → Dec (T (p n)) → Least p lt (suc n)
      go (nothing h) (no z) = nothing (also (λ j. T (p j) → ⊥) n h z)
      go (nothing h) (yes z) = first n (omega arith) z (also (λ j. T (p j) → T (lt j n) → ⊥) n (λ j l t. absurd (h j l t)) (λ t. st.irreflexive n))
      go (first b l t h) (no z) = first b (omega arith) t (also (λ j. T (p j) → T (lt j b) → ⊥) n h (λ t. absurd (z t)))
      go (first b l t h) (yes z) = at (T_dec (lt n b))
        where
          at : Dec (T (lt n b)) → Least p lt (suc n)
          at (yes y) = first n (omega arith) z (also (λ j. T (p j) → T (lt j n) → ⊥) n (λ j k u v. h j k u (st.transitive j n b v y)) (λ u. st.irreflexive n))
          at (no y) = first b (omega arith) t (also (λ j. T (p j) → T (lt j b) → ⊥) n h (λ u. y))

  -- p is the queue, below n; rank is how many of it are before
  module _ (p : ℕ → Bool) (n : ℕ) where
    rank : ℕ → ℕ
    rank i = how_many (λ j. p j && lt j i) n

    -- of those before i, the ones whose rank is below c are c at least, if so many are before i
    front : (i c : ℕ) → c ≤ rank i → c ≤ how_many (λ j. (p j && lt j i) && ltb (rank j) c) n
    unfolding rank
    front i c l = go (least (λ j. (p j && lt j i) && not (ltb (rank j) c)) n)
      where
        go : Least (λ j. (p j && lt j i) && not (ltb (rank j) c)) lt n → c ≤ how_many (λ j. (p j && lt j i) && ltb (rank j) c) n
        go (nothing h) = omega (arith, count-split (λ j. p j && lt j i) (λ j. ltb (rank j) c) n, count_none (λ j. (p j && lt j i) && not (ltb (rank j) c)) n h)
        go (first b k t h) = le_trans (nltb→le (rank b) c (T_right (p b && lt b i) (not (ltb (rank b) c)) t)) (count_mono (λ j. p j && lt j b) (λ j. (p j && lt j i) && ltb (rank j) c) n inside)
          where
            inside : (j : ℕ) → j < n → T (p j && lt j b) → T ((p j && lt j i) && ltb (rank j) c)
            inside j m u = at (T_dec (ltb (rank j) c))
              where
                before : T (p j && lt j i)
                before = and_T (p j) (lt j i) (T_left (p j) (lt j b) u) (st.transitive j b i (T_right (p j) (lt j b) u) (T_right (p b) (lt b i) (T_left (p b && lt b i) (not (ltb (rank b) c)) t)))

                at : Dec (T (ltb (rank j) c)) → T ((p j && lt j i) && ltb (rank j) c)
                at (yes y) = and_T (p j && lt j i) (ltb (rank j) c) before y
                at (no y) = absurd (h j m (and_T (p j && lt j i) (not (ltb (rank j) c)) before (not_T (ltb (rank j) c) y)) (T_right (p j) (lt j b) u))

    -- so that the rest of those before i are fewer by c
    pub behind : (i c : ℕ) → c ≤ how_many (λ j. p j && lt j i) n → how_many (λ j. (p j && lt j i) && not (ltb (how_many (λ k. p k && lt k j) n) c)) n + c ≤ how_many (λ j. p j && lt j i) n
    unfolding rank
    behind i c l = omega (arith, front i c l, count-split (λ j. p j && lt j i) (λ j. ltb (rank j) c) n)

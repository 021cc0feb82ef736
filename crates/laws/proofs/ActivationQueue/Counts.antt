-- Counts of those queued: they grow with the epoch, and the number ahead is a count below and a count beside.
use mathlib.Core.Path.{◌≡◌, refl, sym, ◌∙◌}
use mathlib.Core.Bool.{Bool, true, false, ◌&&◌, ◌||◌, and-true, and-false}
use mathlib.Core.List.{List, [], ◌∷◌}
use Prim.Native.Nat.{ℕ, zero, suc, ◌+◌, ◌≤◌}
use native.Mathlib.Omega.{arith}
use borrow.Author.Tests.{lt-ltb, le-ltb, ltb-true, ltb-false, eqb-true, eqb-false}
use lib.Dec.{ltb, eqb, leb-suc-suc}
use lib.ListN.{length, get_or, take}
use Rattle.definitions.specs.Lists.{filter, range}
use Rattle.definitions.specs.Record.{Validator, nobody}
use Rattle.definitions.specs.Document.Phase0.Helpers.{is_eligible_for_activation}
use Rattle.laws.specs.Queue.{ahead}
use Rattle.laws.specs.Cut.{queued_before, queued_at, count}
use Rattle.laws.proofs.ActivationQueue.Filter.{flag, count-more, count_mono, count_plus}
use Rattle.laws.proofs.Tests.{and_right}

pub and_left : (a b : Bool) → (a && b) ≡ true → a ≡ true
and_left true b e = refl
and_left false b e = e

module _ (f : ℕ) where
  pub before_mono : {a b : ℕ} → a ≤ b → (v : Validator) → queued_before f a v ≡ true → queued_before f b v ≡ true
  unfolding queued_before
  before_mono {a} {b} h v e =
      let x = v.activation_eligibility_epoch in
      and_right (is_eligible_for_activation f v) (ltb x a) (ltb x b) (λ t. lt-ltb x b (omega (arith, ltb-true x a t))) e

  -- since b or before: before b, or since b
  before-next : (b : ℕ) (v : Validator) → flag (queued_before f (b + 1) v) ≡ flag (queued_before f b v) + flag (queued_at f b v)
  unfolding queued_before queued_at
  before-next b v = go (is_eligible_for_activation f v) (ltb x b) refl (eqb x b) refl
    where
      x : ℕ
      x = v.activation_eligibility_epoch

      go : (w : Bool) (l : Bool) → ltb x b ≡ l → (m : Bool) → eqb x b ≡ m → flag (w && ltb x (b + 1)) ≡ flag (w && l) + flag (w && m)
      go false l p m q = refl
      go true true p true q = absurd (omega (arith, ltb-true x b p, eqb-true x b q))
      go true true p false q = rw (lt-ltb x (b + 1) (omega (arith, ltb-true x b p)))
      go true false p true q = rw (lt-ltb x (b + 1) (omega (arith, eqb-true x b q)))
      go true false p false q =
          let ne : x ≡ b → ⊥ = eqb-false x b q in
          rw (le-ltb x (b + 1) (omega (arith, ltb-false x b p)))

  pub grows : (a b : ℕ) (vs : List Validator) → a ≤ b → count (queued_before f a) vs ≤ count (queued_before f b) vs
  grows a b vs h = count_mono (queued_before f a) (queued_before f b) (before_mono h) vs

  pub next : (b : ℕ) (vs : List Validator) → count (queued_before f (b + 1)) vs ≡ count (queued_before f b) vs + count (queued_at f b) vs
  next b vs = count_plus (queued_before f b) (queued_at f b) (queued_before f (b + 1)) (before-next b) vs

-- The number ahead

-- by index, after the first
filter_shift : (p : ℕ → Bool) (k n : ℕ) → length (filter p (range (suc k) n)) ≡ length (filter (λ j. p (suc j)) (range k n))
unfolding range filter
filter_shift p k zero = refl
filter_shift p k (suc n) = omega (arith, count-more p (suc k) (range (suc (suc k)) n), count-more (λ j. p (suc j)) k (range (suc k) n), filter_shift p (suc k) n)

-- the validator at j is queued since before e, or since e where q says so of j
abbrev earlier : ℕ → ℕ → (ℕ → Bool) → List Validator → ℕ → Bool
earlier f e q vs j =
    is_eligible_for_activation f (get_or vs j nobody) && (ltb (get_or vs j nobody).activation_eligibility_epoch e || (eqb (get_or vs j nobody).activation_eligibility_epoch e && q j))

head : (f e : ℕ) (v : Validator) (here : Bool) → flag (is_eligible_for_activation f v && (ltb v.activation_eligibility_epoch e || (eqb v.activation_eligibility_epoch e && here))) ≡ flag (queued_before f e v) + flag (queued_at f e v && here)
unfolding queued_before queued_at
head f e v here = go (is_eligible_for_activation f v) (ltb x e) refl (eqb x e) refl here
  where
    x : ℕ
    x = v.activation_eligibility_epoch

    go : (w l : Bool) → ltb x e ≡ l → (m : Bool) → eqb x e ≡ m → (here : Bool) → flag (w && (l || (m && here))) ≡ flag (w && l) + flag ((w && m) && here)
    go false l p m q here = refl
    go true true p true q here = absurd (omega (arith, ltb-true x e p, eqb-true x e q))
    go true true p false q here = refl
    go true false p m q here = omega arith

-- q tells the numbers below i
ahead-by : (f e i : ℕ) (q : ℕ → Bool) → ((j : ℕ) → q j ≡ ltb j i) → (vs : List Validator) → length (filter (earlier f e q vs) (range 0 (length vs))) ≡ count (queued_before f e) vs + count (queued_at f e) (take i vs)
unfolding range filter
ahead-by f e zero q h [] = refl
ahead-by f e (suc i) q h [] = refl
ahead-by f e zero q h (v ∷ vs) =
    let t = ahead-by f e zero (λ j. q (suc j)) (λ j. h (suc j) ∙ le-ltb (suc j) 0 (omega arith) ∙ sym (le-ltb j 0 (omega arith))) vs in
    let here : flag (queued_at f e v && q 0) ≡ 0 = rw (h 0, and-false (queued_at f e v)) in
    omega (arith, t, count-more (earlier f e q (v ∷ vs)) 0 (range 1 (length vs)), filter_shift (earlier f e q (v ∷ vs)) 0 (length vs), head f e v (q 0), count-more (queued_before f e) v vs)
ahead-by f e (suc i) q h (v ∷ vs) =
    let t = ahead-by f e i (λ j. q (suc j)) (λ j. h (suc j) ∙ leb-suc-suc (suc j) i) vs in
    let here : flag (queued_at f e v && q 0) ≡ flag (queued_at f e v) = rw (h 0 ∙ lt-ltb 0 (suc i) (omega arith), and-true (queued_at f e v)) in
    omega (arith, t, count-more (earlier f e q (v ∷ vs)) 0 (range 1 (length vs)), filter_shift (earlier f e q (v ∷ vs)) 0 (length vs), head f e v (q 0), count-more (queued_before f e) v vs, count-more (queued_at f e) v (take i vs))

pub ahead-is : (f : ℕ) (vs : List Validator) (i : ℕ) → ahead f vs i ≡ count (queued_before f (get_or vs i nobody).activation_eligibility_epoch) vs + count (queued_at f (get_or vs i nobody).activation_eligibility_epoch) (take i vs)
unfolding ahead
ahead-is f vs i = ahead-by f (get_or vs i nobody).activation_eligibility_epoch i (λ j. ltb j i) (λ j. refl) vs

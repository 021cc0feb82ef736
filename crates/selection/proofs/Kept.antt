-- A slice that keeps the smallest.
use mathlib.Core.Path.{◌≡◌, refl, sym, ap, ◌∙◌}
use mathlib.Core.Bool.{Bool, true, false}
use mathlib.Core.List.{List, [], ◌∷◌}
use Prim.Native.Nat.{ℕ, zero, suc, ◌+◌, ◌≤◌, ◌<◌, min}
use native.Mathlib.Omega.{arith}
use borrow.Author.Tests.{lt-ltb, le-ltb, ltb-true, ltb-false}
use borrow.Author.Count.{below_more}
use lib.Dec.{ltb}
use lib.ListN.{length, get_or, take, set, length-set}
use lib.Seq.{take_all}
use Rattle.laws.specs.Cut.{count}
use Rattle.laws.proofs.Loops.Filtered.{filter_le}
use Rattle.laws.proofs.ActivationQueue.Filter.{flag, flag_one, count_none, count-more, first_more}
use Rattle.selection.specs.Keep.{under, Highest, Kept}

-- all are under the bound; none is; one is not
pub under_all : (b : ℕ) (ks : List ℕ) → ((j : ℕ) → j < length ks → get_or ks j 0 < b) → count (under b) ks ≡ length ks
under_all b [] h = count_none (under b)
under_all b (k ∷ ks) h = omega (arith, rw (lt-ltb k b (h 0 (omega arith))) at (count-more (under b) k ks), under_all b ks (λ j l. h (suc j) (omega arith)))

pub under_none : (b : ℕ) (ks : List ℕ) → ((j : ℕ) → j < length ks → b ≤ get_or ks j 0) → count (under b) ks ≡ 0
under_none b [] h = count_none (under b)
under_none b (k ∷ ks) h = omega (arith, rw (le-ltb k b (h 0 (omega arith))) at (count-more (under b) k ks), under_none b ks (λ j l. h (suc j) (omega arith)))

pub under-less : (b : ℕ) (ks : List ℕ) (p : ℕ) → p < length ks → b ≤ get_or ks p 0 → count (under b) ks < length ks
under-less b [] p l h = absurd (omega arith)
under-less b (k ∷ ks) zero l h = omega (arith, rw (le-ltb k b h) at (count-more (under b) k ks), filter_le (under b) ks)
under-less b (k ∷ ks) (suc p) l h = omega (arith, count-more (under b) k ks, flag_one (ltb k b), under-less b ks p (omega arith) h)

under-set : (b : ℕ) (ks : List ℕ) (p x : ℕ) → p < length ks → count (under b) (set ks p x) + flag (ltb (get_or ks p 0) b) ≡ count (under b) ks + flag (ltb x b)
under-set b [] p x l = absurd (omega arith)
under-set b (k ∷ ks) zero x l = omega (arith, count-more (under b) k ks, count-more (under b) x ks)
under-set b (k ∷ ks) (suc p) x l = omega (arith, count-more (under b) k ks, count-more (under b) k (set ks p x), under-set b ks p x (omega arith))

-- the two arms of `keep`
pub kept_same : {ks : List ℕ} {p : ℕ} (x : ℕ) → Highest ks p → get_or ks p 0 ≤ x → Kept ks x ks p
kept_same {ks} {p} x t h = record { top = t; long = refl; lowest = λ b. at b (ltb x b) refl }
  where
    at : (b : ℕ) (w : Bool) → ltb x b ≡ w → count (under b) ks ≡ min (length ks) (count (under b) ks + flag w)
    at b false e = omega (arith, filter_le (under b) ks)
    at b true e = let k : count (under b) ks ≡ length ks = under_all b ks (λ j l. omega (arith, t.highest j l, ltb-true x b e)) in omega arith

pub kept_set : {ks : List ℕ} {p x q : ℕ} → Highest ks p → x < get_or ks p 0 → Highest (set ks p x) q → Kept ks x (set ks p x) q
kept_set {ks} {p} {x} {q} t h u = record { top = u; long = length-set ks p x; lowest = λ b. at b (ltb (get_or ks p 0) b) refl }
  where
    at : (b : ℕ) (w : Bool) → ltb (get_or ks p 0) b ≡ w → count (under b) (set ks p x) ≡ min (length ks) (count (under b) ks + flag (ltb x b))
    at b true e =
        let k : count (under b) ks ≡ length ks = under_all b ks (λ j l. omega (arith, t.highest j l, ltb-true (get_or ks p 0) b e)) in
        let m : flag (ltb x b) ≡ 1 = rw (lt-ltb x b (omega (arith, ltb-true (get_or ks p 0) b e))) in
        let s : count (under b) (set ks p x) + 1 ≡ count (under b) ks + flag (ltb x b) = rw e at (under-set b ks p x t.inside) in
        omega arith
    at b false e =
        let s : count (under b) (set ks p x) + 0 ≡ count (under b) ks + flag (ltb x b) = rw e at (under-set b ks p x t.inside) in
        omega (arith, flag_one (ltb x b), under-less b ks p t.inside (ltb-false (get_or ks p 0) b e))

-- `count_under`, place by place
pub record Counting (b : ℕ) (ks : List ℕ) (i n : ℕ) : Type 0 where
  pub up_to : i ≤ length ks
  pub small : n ≤ i
  pub held : n ≡ count (under b) (take i ks)

pub counting_none : (b : ℕ) (ks : List ℕ) → Counting b ks 0 0
counting_none b ks = record { up_to = omega arith; small = omega arith; held = sym (count_none (under b)) }

module _ {b : ℕ} {ks : List ℕ} {i n : ℕ} (g : Counting b ks i n) where
  pub counting_yes : i < length ks → get_or ks i 0 < b → Counting b ks (i + 1) (n + 1)
  counting_yes l h = record { up_to = omega arith; small = omega arith; held = omega (arith, g.held, rw (lt-ltb (get_or ks i 0) b h) at (first_more (under b) ks i 0 l)) }

  pub counting_no : i < length ks → b ≤ get_or ks i 0 → Counting b ks (i + 1) n
  counting_no l h = record { up_to = omega arith; small = omega arith; held = omega (arith, g.held, rw (le-ltb (get_or ks i 0) b h) at (first_more (under b) ks i 0 l)) }

  pub counting_all : length ks ≤ i → n ≡ count (under b) ks
  counting_all l = g.held ∙ ap (count (under b)) (take_all i ks l)

-- `highest`: the place of the largest of the first j
pub record Seeking (ks : List ℕ) (p j : ℕ) : Type 0 where
  pub inside : p < length ks
  pub up_to : j ≤ length ks
  pub highest : (k : ℕ) → k < j → get_or ks k 0 ≤ get_or ks p 0

pub seeking_none : (ks : List ℕ) → 0 < length ks → Seeking ks 0 0
seeking_none ks h = record { inside = h; up_to = omega arith; highest = λ k l. absurd (omega arith) }

module _ {ks : List ℕ} {p j : ℕ} (g : Seeking ks p j) where
  pub seeking_new : j < length ks → get_or ks p 0 < get_or ks j 0 → Seeking ks j (j + 1)
  seeking_new l h = record { inside = l; up_to = omega arith; highest = below_more (λ k. get_or ks k 0 ≤ get_or ks j 0) j (λ k m. omega (arith, g.highest k m)) (omega arith) }

  pub seeking_old : j < length ks → get_or ks j 0 ≤ get_or ks p 0 → Seeking ks p (j + 1)
  seeking_old l h = record { inside = g.inside; up_to = omega arith; highest = below_more (λ k. get_or ks k 0 ≤ get_or ks p 0) j g.highest h }

  pub seeking_all : length ks ≤ j → Highest ks p
  seeking_all l = record { inside = g.inside; highest = λ k m. g.highest k (omega arith) }

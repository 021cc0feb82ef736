-- From the last place to the first: a place is written from one that is not behind it.
use mathlib.Core.Path.{◌≡◌, refl, ◌∙◌}
use mathlib.Core.Bool.{Bool, true, false, cond}
use mathlib.Core.List.{List}
use Prim.Native.Nat.{ℕ, ◌+◌, ◌-◌, ◌*◌, ◌/◌, ◌%◌, ◌≤◌, ◌<◌}
use native.Mathlib.Omega.{arith}
use borrow.Author.Tests.{ltb-true, ltb-false}
use lib.Dec.{ltb}
use lib.ListN.{length, get_or, set, length-set}
use lib.Seq.{get_or-set_same, get_or-set_other}
use Rattle.electra_amounts.specs.Columns.{spread_at, Spread}

-- k places are written
pub record Spreading (lent : List ℕ) (k : ℕ) (xs : List ℕ) : Type 0 where
  pub below : k ≤ length lent
  pub long : length xs ≡ length lent
  pub held : (p : ℕ) → length lent - k ≤ p → p < length lent → get_or xs p 0 ≡ spread_at lent p
  pub front : (p : ℕ) → p < length lent - k → get_or xs p 0 ≡ get_or lent p 0

pub spreading_none : (lent : List ℕ) → Spreading lent 0 lent
spreading_none lent = record { below = omega arith; long = refl; held = λ p l m. absurd (omega (arith, l, m)); front = λ p l. refl }

module _ {lent : List ℕ} {k : ℕ} {xs : List ℕ} (g : Spreading lent k xs) where
  pub spreading_all : length lent ≤ k → Spread lent xs
  spreading_all l = record { long = g.long; held = λ p m. g.held p (omega (arith, l)) m }

  module _ (l : k < length lent) where
    abbrev at : ℕ
    at = length lent - 1 - k

    same : spread_at xs at ≡ spread_at lent at
    same = go (ltb (at % 12) 9) refl
      where
        go : (t : Bool) → ltb (at % 12) 9 ≡ t → cond t (get_or xs (9 * (at / 12) + at % 12) 0) 0 ≡ cond t (get_or lent (9 * (at / 12) + at % 12) 0) 0
        go true e = let u = ltb-true (at % 12) 9 e in g.front (9 * (at / 12) + at % 12) (omega (arith, l, u))
        go false e = refl

    pub spreading_more : {x : ℕ} → x ≡ spread_at xs at → Spreading lent (k + 1) (set xs at x)
    spreading_more {x} e =
        record {
          below = omega arith;
          long = length-set xs at x ∙ g.long;
          held = λ p m n. put p m n;
          front = λ p m. get_or-set_other xs at p x 0 (λ q. omega (arith, q, m)) ∙ g.front p (omega (arith, m));
        }
      where
        put : (p : ℕ) → length lent - (k + 1) ≤ p → p < length lent → get_or (set xs at x) p 0 ≡ spread_at lent p
        put p m n = by (ltb at p) refl
          where
            by : (t : Bool) → ltb at p ≡ t → get_or (set xs at x) p 0 ≡ spread_at lent p
            by true q = let u = ltb-true at p q in get_or-set_other xs at p x 0 (λ y. omega (arith, y, u)) ∙ g.held p (omega (arith, u, l)) n
            by false q =
                let u = ltb-false at p q in
                let y : p ≡ at = omega (arith, u, m, l) in
                rw y (get_or-set_same xs at x 0 (omega (arith, l, g.long)) ∙ e ∙ same)

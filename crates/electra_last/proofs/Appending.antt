-- Places written one after the other, behind the first rows.
use mathlib.Core.Path.{◌≡◌, sym, ap, ◌∙◌}
use mathlib.Core.List.{List}
use Prim.Native.Nat.{ℕ, ◌+◌, ◌-◌, ◌*◌, ◌≤◌, ◌<◌}
use native.Mathlib.Omega.{arith}
use borrow.Author.Count.{below_more}
use lib.ListN.{length, get_or, set, length-set}
use lib.Seq.{get_or-set_same, get_or-set_other}
use Rattle.electra_last.specs.Added.{added_at, Added}

pub record Appending (n count : ℕ) (registry before : List ℕ) (k : ℕ) (xs : List ℕ) : Type 0 where
  pub room : 12 * count ≤ length before
  pub tens : 10 * count ≤ length registry
  pub some : n ≤ count
  pub below : k ≤ 12 * (count - n)
  pub long : length xs ≡ length before
  pub rows : (j : ℕ) → j < k → get_or xs (12 * n + j) 0 ≡ added_at registry (12 * n + j)
  pub front : (p : ℕ) → p < 12 * n → get_or xs p 0 ≡ get_or before p 0
  pub behind : (p : ℕ) → 12 * n + k ≤ p → get_or xs p 0 ≡ get_or before p 0

module _ {n count : ℕ} {registry before : List ℕ} {k : ℕ} {xs : List ℕ} (g : Appending n count registry before k xs) where
  pub appending_all : 12 * (count - n) ≤ k → Added n count registry before xs
  appending_all l =
      record {
        long = g.long;
        rows = λ p a b. (
            let e : 12 * n + (p - 12 * n) ≡ p = omega (arith, a) in
            ap (λ (q : ℕ). get_or xs q 0) (sym e) ∙ g.rows (p - 12 * n) (omega (arith, a, b, l, g.some)) ∙ ap (added_at registry) e);
        front = g.front;
        behind = λ p a. g.behind p (omega (arith, a, g.below, g.some));
      }

  pub appending_more : {x : ℕ} → k < 12 * (count - n) → x ≡ added_at registry (12 * n + k) → Appending n count registry before (k + 1) (set xs (12 * n + k) x)
  appending_more {x} l e =
      record {
        room = g.room;
        tens = g.tens;
        some = g.some;
        below = omega arith;
        long = length-set xs (12 * n + k) x ∙ g.long;
        rows =
            below_more (λ j. get_or (set xs (12 * n + k) x) (12 * n + j) 0 ≡ added_at registry (12 * n + j)) k
            (λ j m. get_or-set_other xs (12 * n + k) (12 * n + j) x 0 (λ q. omega (arith, q, m)) ∙ g.rows j m)
            (get_or-set_same xs (12 * n + k) x 0 (omega (arith, l, g.long, g.room, g.some)) ∙ e);
        front = λ p m. get_or-set_other xs (12 * n + k) p x 0 (λ q. omega (arith, q, m)) ∙ g.front p m;
        behind = λ p m. get_or-set_other xs (12 * n + k) p x 0 (λ q. omega (arith, q, m)) ∙ g.behind p (omega (arith, m));
      }

-- One column from the first row to the last.
use mathlib.Core.Path.{◌≡◌, ap₂, ◌∙◌}
use mathlib.Core.List.{List}
use Prim.Native.Nat.{ℕ, ◌+◌, ◌*◌, ◌/◌, ◌≤◌, ◌<◌}
use native.Mathlib.Omega.{arith}
use borrow.Author.Count.{below_more}
use lib.ListN.{length, get_or, set, length-set}
use lib.Seq.{get_or-set_same, get_or-set_other}
use Rattle.laws.proofs.Loops.Entry.{number-at}
use Rattle.electra_amounts.specs.Columns.{booked_by, balance_in, Booked}

pub record Booking (op column : ℕ) (registry lent : List ℕ) (n i : ℕ) (xs : List ℕ) : Type 0 where
  pub many : n ≡ length registry / 10
  pub tens : length registry ≡ 10 * n
  pub twelves : length lent ≡ 12 * n
  pub small : column < 12
  pub below : i ≤ n
  pub long : length xs ≡ length lent
  pub held : (j : ℕ) → j < i → get_or xs (12 * j + column) 0 ≡ booked_by op (get_or lent (12 * j + column) 0) (balance_in registry j)
  pub other : (p : ℕ) → ((j : ℕ) → j < i → p ≡ 12 * j + column → ⊥) → get_or xs p 0 ≡ get_or lent p 0

module _ {op column : ℕ} {registry lent : List ℕ} {n i : ℕ} {xs : List ℕ} (g : Booking op column registry lent n i xs) where
  pub booking_all : n ≤ i → Booked op column registry lent xs
  booking_all l =
      record {
        long = g.long;
        held = λ j m. g.held j (omega (arith, m, l, g.many));
        other = λ p h. g.other p (λ j m e. h j e);
      }

  module _ (l : i < n) where
    abbrev at : ℕ
    at = 12 * i + column

    pub booking_more : {x : ℕ} → x ≡ booked_by op (get_or xs at 0) (get_or registry (10 * i + 6) 0) → Booking op column registry lent n (i + 1) (set xs at x)
    booking_more {x} e =
        record {
          many = g.many;
          tens = g.tens;
          twelves = g.twelves;
          small = g.small;
          below = omega arith;
          long = length-set xs at x ∙ g.long;
          held =
              below_more (λ j. get_or (set xs at x) (12 * j + column) 0 ≡ booked_by op (get_or lent (12 * j + column) 0) (balance_in registry j)) i
              (λ j m. get_or-set_other xs at (12 * j + column) x 0 (λ q. omega (arith, q, m)) ∙ g.held j m)
              (get_or-set_same xs at x 0 (omega (arith, l, g.long, g.twelves, g.small)) ∙ e ∙ ap₂ (booked_by op) (g.other at (λ j m q. omega (arith, m, q))) (number-at n registry i g.tens l 6 (omega arith)));
          other = λ p h. get_or-set_other xs at p x 0 (λ q. h i (omega arith) q) ∙ g.other p (λ j m q. h j (omega (arith, m)) q);
        }

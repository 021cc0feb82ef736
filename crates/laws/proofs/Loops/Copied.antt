-- A loop that copies a slice, number by number.
use mathlib.Core.Path.{◌≡◌, ◌∙◌}
use mathlib.Core.List.{List}
use Prim.Native.Nat.{ℕ, ◌+◌, ◌≤◌, ◌<◌}
use native.Mathlib.Omega.{arith}
use borrow.Author.Count.{below_more}
use lib.ListN.{length, get_or, set, length-set}
use lib.Seq.{ext_get_or, get_or-set_same, get_or-set_other}

pub record Copied (src : List ℕ) (i : ℕ) (dst : List ℕ) : Type 0 where
  pub below : i ≤ length src
  pub long : length dst ≡ length src
  pub held : (j : ℕ) → j < i → get_or dst j 0 ≡ get_or src j 0

pub copied_none : {src dst : List ℕ} → length dst ≡ length src → Copied src 0 dst
copied_none h = record { below = omega arith; long = h; held = λ j l. absurd (omega arith) }

module _ {src : List ℕ} {i : ℕ} {dst : List ℕ} (g : Copied src i dst) where
  pub copied_more : i < length src → Copied src (i + 1) (set dst i (get_or src i 0))
  copied_more l =
      let x = get_or src i 0 in
      record {
        below = omega arith;
        long = simp length-set g.long;
        held = below_more _ i (λ j h. get_or-set_other dst i j x 0 (omega arith) ∙ g.held j h) (get_or-set_same dst i x 0 (omega arith));
      }

  pub copied_all : length src ≤ i → dst ≡ src
  copied_all l = ext_get_or 0 dst src g.long (λ j h. g.held j (omega arith))

-- `search (rules, copying)` answers each need of such a loop that is not plain arithmetic
pub ruleset copying = (copied_none, copied_more, copied_all)

-- The definition's square root is the largest number whose square is at most n, and the only one between the squares.
use mathlib.Core.Path.{◌≡◌, refl}
use mathlib.Core.Bool.{Bool, true, false, cond}
use Prim.Native.Nat.{ℕ, zero, suc, ◌+◌, ◌*◌, ◌/◌, ◌≤◌}
use native.Mathlib.Omega.{arith}
use native.Mathlib.Nat.{mul_assoc, mul_left_comm, mul-le-mul, le_antisymm}
use native.Mathlib.Decide.{dec_le}
use borrow.Author.Tests.{leb-true, leb-false}
use lib.Dec.{leb}
use Rattle.definitions.specs.Document.Phase0.Helpers.{root_within, integer_squareroot}
use Rattle.laws.specs.SquareRoot.{Root}

double : (r : ℕ) → (2 * r) * (2 * r) ≡ 4 * (r * r)
double r = rw (mul_assoc 2 r (2 * r), mul_left_comm r 2 r) (omega arith)

-- two more bits of n, one more of the root
step : (n r : ℕ) → Root (n / 4) r → Root n (cond (leb ((2 * r + 1) * (2 * r + 1)) n) (2 * r + 1) (2 * r))
step n r h = go (leb ((2 * r + 1) * (2 * r + 1)) n) refl
  where
    next : 2 * r + 1 + 1 ≡ 2 * (r + 1)
    next = omega arith

    go : (t : Bool) → leb ((2 * r + 1) * (2 * r + 1)) n ≡ t → Root n (cond t (2 * r + 1) (2 * r))
    go true e = record { below = leb-true _ _ e; above = rw (next, double (r + 1)) (omega (arith, h.above)) }
    go false e = record { below = rw (double r) (omega (arith, h.below)); above = leb-false _ _ e }

within : (fuel n : ℕ) → n ≤ fuel → Root n (root_within fuel n)
unfolding root_within
within zero n h = record { below = omega arith; above = omega arith }
within (suc fuel) zero h = record { below = omega arith; above = omega arith }
within (suc fuel) (suc m) h = step (suc m) (root_within fuel (suc m / 4)) (within fuel (suc m / 4) (omega arith))

pub square-root : (n : ℕ) → Root n (integer_squareroot n)
unfolding integer_squareroot
square-root n = within n n (omega arith)

pub root-largest : (n r x : ℕ) → Root n r → x * x ≤ n → x ≤ r
root-largest n r x h l = go (dec_le x r)
  where
    go : Dec (x ≤ r) → x ≤ r
    go (yes k) = k
    go (no k) =
        let m : r + 1 ≤ x = omega arith in
        let s : (r + 1) * (r + 1) ≤ x * x = mul-le-mul m m in
        absurd (omega (arith, h.above))

pub root-only : (n r : ℕ) → Root n r → r ≡ integer_squareroot n
root-only n r h =
    let d = square-root n in
    le_antisymm (root-largest n _ r d h.below) (root-largest n r _ h d.below)

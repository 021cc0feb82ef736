use mathlib.Core.Bool.{Bool, true, false}
use mathlib.Core.Path.{◌≡◌, refl, sym}
use Prim.Native.Nat.{ℕ, ◌*◌, ◌/◌, ◌%◌}
use native.Mathlib.Omega.{arith}
use borrow.Author.Tests.{eq-eqb, ne_eqb, eqb-true, eqb-false}
use lib.Dec.{eqb}
use lib.ListN.{length}
use Rattle.epochs.proofs.roots.roots_shaped.Goals as goal

-- by whole roots
whole : (n k : ℕ) → n % 32 ≡ 0 → eqb (n / 32) k ≡ eqb n (32 * k)
whole n k z = go (eqb (n / 32) k) refl
  where
    go : (t : Bool) → eqb (n / 32) k ≡ t → t ≡ eqb n (32 * k)
    go true e = let h : n ≡ 32 * k = omega (arith, z, eqb-true (n / 32) k e) in sym (eq-eqb n (32 * k) h)
    go false e = sym (ne_eqb n (32 * k) (λ (h : n ≡ 32 * k). eqb-false (n / 32) k e (omega (arith, h))))

pub returns-then-roots-ne0 : goal.returns-then-roots-ne0
returns-then-roots-ne0 c =
    let a = c.args in
    sym (ne_eqb (length a.roots.now) (32 * a.s.slots_per_historical_root) (λ e. c.if-roots-ne0.true (omega (arith, e))))

pub returns : goal.returns
returns c = whole _ _ c.if-roots-ne0.false

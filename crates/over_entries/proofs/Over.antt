-- Where a sum of two is refused.
use mathlib.Core.Path.{◌≡◌, refl, sym}
use mathlib.Core.Bool.{Bool, true, false, cond}
use Prim.Native.Nat.{ℕ, ◌+◌, ◌^◌, ◌≤◌}
use borrow.Author.Tests.{ltb-false}
use lib.Dec.{ltb}
use Rattle.definitions.specs.Checked.{Checked, value, refused, add64}
use Rattle.definitions.specs.declared.Refusal.{Refusal}
use Rattle.definitions.specs.declared.Refusal.TheVariants.{Overflow}
use Rattle.laws.proofs.Checked.{not_value, refused_same}

pub over : (a b : ℕ) {p : Refusal} → add64 a b ≡ refused p → (2 ^ 64 ≤ a + b) × (p ≡ Overflow)
unfolding add64
over a b {p} e = go (ltb (a + b) (2 ^ 64)) refl e
  where
    go : (t : Bool) → ltb (a + b) (2 ^ 64) ≡ t → cond t (value (a + b)) (refused Overflow) ≡ refused p → (2 ^ 64 ≤ a + b) × (p ≡ Overflow)
    go true q e = absurd (not_value (sym e))
    go false q e = (ltb-false (a + b) (2 ^ 64) q, sym (refused_same e))

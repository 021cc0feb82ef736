-- Where a test of 1 failed, whatever the others say.
use mathlib.Core.Path.{◌≡◌, refl, sym, ◌∙◌}
use mathlib.Core.Bool.{Bool, true, false, true≢false}
use mathlib.Core.List.{List}
use Prim.Native.Nat.{ℕ}
use lib.ListN.{get_or}
use Rattle.definitions.specs.declared.Refusal.TheVariants.{BadShape}
use Rattle.definitions.specs.Checked.{refused}
use Rattle.definitions.specs.Lists.{every}
use Rattle.definitions.specs.Refusals.{in_order}
use Rattle.laws.proofs.Tests.{test}

pub shape-refused : (shaped settings recorded : List Bool) (i : ℕ) → get_or shaped i true ≡ false → refused BadShape ≡ in_order shaped settings recorded
unfolding in_order
shape-refused shaped settings recorded i e = go (every shaped) refl
  where
    go : (t : Bool) → every shaped ≡ t → refused BadShape ≡ in_order shaped settings recorded
    go true q = absurd (true≢false (sym (test shaped q i) ∙ e))
    go false q = rw q

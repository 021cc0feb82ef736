-- The slashed balance by which penalties go.
use Rattle.std.specs.Prelude.{List, ℕ, min}
use Rattle.definitions.specs.Checked.{Checked, value, bind, mul64, sum64}

-- the sum of the slashings times the multiplier, and at most the total
unfoldable pub adjusted_balance : ℕ → ℕ → List ℕ → Checked ℕ
adjusted_balance multiplier total slashings =
    bind (sum64 slashings) (λ slashed. bind (mul64 slashed multiplier) (λ product. value (min product total)))

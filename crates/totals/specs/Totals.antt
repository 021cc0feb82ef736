-- A total from its plain sum, and its balance alone.
use Rattle.std.specs.Prelude.{cond, ℕ, max, ltb}
use Rattle.definitions.specs.declared.Total.{Total}
use Rattle.definitions.specs.Checked.{Checked, value, refused}

unfoldable pub total_from : ℕ → ℕ → Total
total_from increment sum = record { balance = max increment sum; raised = cond (ltb sum increment) 1 0 }

unfoldable pub balance_for : Checked Total → Checked ℕ
balance_for (value t) = value t.balance
balance_for (refused r) = refused r

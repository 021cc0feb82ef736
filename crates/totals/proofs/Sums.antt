-- What a total refuses, and that it is never 0.
use mathlib.Core.Path.{◌≡◌}
use mathlib.Core.List.{List, map}
use Prim.Native.Nat.{ℕ, ◌<◌, max}
use native.Mathlib.Omega.{arith}
use Rattle.definitions.specs.declared.Settings.{Settings}
use Rattle.definitions.specs.Record.{Validator}
use Rattle.definitions.specs.Checked.{value, sum64}
use Rattle.definitions.specs.Rust.Phase0.Helpers.{get_total_balance}
use Rattle.laws.proofs.Checked.{bound, value_same}
use Rattle.arithmetic.proofs.Operations.{OnlyOverflow, only-value, only-sum64, only-bind}

module _ (s : Settings) (members : List Validator) where
  pub only-total : OnlyOverflow (get_total_balance s members)
  unfolding get_total_balance
  only-total = only-bind (only-sum64 _) (λ x. only-value _)

  pub total-positive : {total : ℕ} → get_total_balance s members ≡ value total → 0 < s.effective_balance_increment → 0 < total
  unfolding get_total_balance
  total-positive {total} h p =
      let b = bound (sum64 (map (λ v. v.effective_balance) members)) (λ total. value (max s.effective_balance_increment total)) h in
      let e : max s.effective_balance_increment b.first ≡ total = value_same b.then in
      omega arith

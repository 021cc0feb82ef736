-- `get_activation_exit_churn_limit` is never below the smallest that the settings allow.
use mathlib.Core.Path.{◌≡◌, refl}
use mathlib.Core.Bool.{true, not}
use mathlib.Core.List.{List}
use Prim.Native.Nat.{ℕ, zero, suc, ◌-◌, ◌/◌, ◌%◌, max, ◌≤◌}
use native.Mathlib.Nat.{div-add-mod', div-mul-le_self, le-div_iff_mul-le, mod-zero, mod_self, mul-le-mul_right, le-max_left}
use native.Mathlib.Omega.{arith}
use borrow.Author.Tests.{leb-true, eqb-false, not-true}
use lib.Dec.{eqb}
use Rattle.definitions.specs.Record.{Validator}
use Rattle.definitions.specs.Checked.{value}
use Rattle.definitions.specs.Refusals.{divisors, good_settings}
use Rattle.definitions_electra.specs.declared.ElectraRules.{ElectraRules}
use Rattle.definitions_electra.specs.Refusals.{good_electra}
use Rattle.definitions_electra.specs.Document.Electra.Helpers.{balance_churn_limit, activation_exit_churn_limit}
use Rattle.definitions_electra.specs.Evaluated.Electra.Helpers.{get_activation_exit_churn_limit}
use Rattle.laws.proofs.Checked.{value_same, bound}
use Rattle.laws.proofs.Tests.{both, test, all-at}
use Rattle.history_electra.specs.DepositsEarn.{smallest_churn}

-- rounding down keeps the order
rounded : (m a b : ℕ) → a ≤ b → a - a % m ≤ b - b % m
rounded zero a b l = omega (arith, mod-zero a)
rounded (suc m) a b l =
    let n = suc m in
    let q : a / n ≤ b / n = (le-div_iff_mul-le {k = n} {x = a / n} {y = b} (omega arith)).1 (omega (arith, div-mul-le_self a n)) in
    omega (arith, div-add-mod' a n, div-add-mod' b n, mul-le-mul_right n q)

pub never-below : (r : ElectraRules) (state_slot : ℕ) (vs : List Validator) {limit : ℕ} → get_activation_exit_churn_limit r state_slot vs ≡ value limit
    → smallest_churn r ≤ limit
unfolding get_activation_exit_churn_limit smallest_churn activation_exit_churn_limit balance_churn_limit
never-below r state_slot vs e =
    let h = bound _ _ e in
    let least = r.electra.min_per_epoch_churn_limit_electra in
    let share = h.first / r.settings.churn_limit_quotient in
    let low = rounded r.settings.effective_balance_increment least (max least share) (le-max_left least share) in
    omega (arith, low, value_same h.then)

-- test 2 keeps it above 0
pub tested-churn : (r : ElectraRules) → good_electra r ≡ true → 1 ≤ smallest_churn r
unfolding good_electra good_settings smallest_churn
tested-churn r e =
    let increment = r.settings.effective_balance_increment in
    let least = r.electra.min_per_epoch_churn_limit_electra in
    let most = eqb-false r.electra.max_per_epoch_activation_exit_churn_limit 0 (not-true _ (test _ e 4)) in
    let low = leb-true increment least (test _ e 3) in
    let some = eqb-false increment 0 (not-true _ (all-at (λ n. not (eqb n 0)) (divisors r.settings) 1 0 (omega arith) (both _ _ (test _ e 0)).0)) in
    omega (arith, rounded increment increment least low, mod_self increment, positive _ most, positive _ some)
  where
    positive : (n : ℕ) → (n ≡ 0 → ⊥) → 1 ≤ n
    positive zero h = absurd (h refl)
    positive (suc n) h = omega arith

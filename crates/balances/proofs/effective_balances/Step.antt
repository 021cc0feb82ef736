-- The step by its thresholds.
use mathlib.Core.Path.{◌≡◌, refl}
use mathlib.Core.List.{List}
use Prim.Native.Nat.{ℕ, ◌/◌}
use Rattle.definitions.specs.declared.Refusal.{Refusal}
use Rattle.definitions.specs.declared.Settings.{Settings}
use Rattle.definitions.specs.Record.{Validator}
use Rattle.definitions.specs.Checked.{Checked, value, refused, bind, mul64, map_checked}
use Rattle.definitions.specs.Rust.Phase0.EpochProcessing.{update_effective_balance, process_effective_balance_updates}
use Rattle.laws.specs.Ran.{Ran}
use Rattle.refusals.proofs.buffers.Chained.{ran-given, ran_over}
use Rattle.balances.specs.declared.effective_balances.Thresholds.{Thresholds}
use Rattle.balances.specs.Thresholds.{thresholds_of}

module _ (s : Settings) where
  module _ (vs : List Validator) where
    abbrev by : Thresholds → Checked (List Validator)
    by t = map_checked (update_effective_balance s t.downward t.upward) vs

    pub updates-by : process_effective_balance_updates s vs ≡ bind (thresholds_of s) by
    unfolding process_effective_balance_updates thresholds_of bind
    updates-by = go (mul64 (s.effective_balance_increment / s.hysteresis_quotient) s.hysteresis_downward_multiplier) (mul64 (s.effective_balance_increment / s.hysteresis_quotient) s.hysteresis_upward_multiplier)
      where
        go : (x y : Checked ℕ) → bind x (λ downward. bind y (λ upward. map_checked (update_effective_balance s downward upward) vs)) ≡ bind (bind x (λ downward. bind y (λ upward. value (record { downward = downward; upward = upward })))) by
        go (value x) (value y) = refl
        go (value x) (refused r) = refl
        go (refused r) y = refl

    module _ {n : Checked Thresholds} {xs : List ℕ} (h : n ≡ thresholds_of s) where
      pub updated-by : {t : Thresholds} {r : Checked (Unit {0})} → n ≡ value t → Ran (by t) xs r → Ran (process_effective_balance_updates s vs) xs r
      updated-by e d = rw updates-by (ran-given by h e d)

      pub not_updated : {p : Refusal} → n ≡ refused p → Ran (process_effective_balance_updates s vs) xs (refused p)
      not_updated e = rw updates-by (ran_over by h e)

-- The thresholds of the hysteresis.
use Rattle.std.specs.Prelude.{◌/◌}
use Rattle.definitions.specs.declared.Settings.{Settings}
use Rattle.definitions.specs.Checked.{Checked, value, bind, mul64}
use Rattle.balances.specs.declared.effective_balances.Thresholds.{Thresholds}

-- multiples of the part of an increment that the quotient gives
unfoldable pub thresholds_of : Settings → Checked Thresholds
thresholds_of s =
    let increment = s.effective_balance_increment / s.hysteresis_quotient in
    bind (mul64 increment s.hysteresis_downward_multiplier) (λ downward.
    bind (mul64 increment s.hysteresis_upward_multiplier) (λ upward.
    value (record { downward = downward; upward = upward })))

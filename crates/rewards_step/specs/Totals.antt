-- A flag's totals, from the participating balance, the total active balance and the leak.
use Rattle.std.specs.Prelude.{Bool, ℕ, ◌/◌}
use Rattle.definitions.specs.declared.Settings.{Settings}
use Rattle.definitions.specs.Rust.Altair.Helpers.{FlagTotals}
use Rattle.rewards_step.specs.declared.StepTotals.{StepTotals}

abbrev pub flag_totals_of : Settings → ℕ → ℕ → Bool → FlagTotals
flag_totals_of s participating total leaking =
    record { participating_increments = participating / s.effective_balance_increment; total_active_balance = total; leaking = leaking }

-- of the three flags, from what all validators share

abbrev pub source_totals : Settings → StepTotals → FlagTotals
source_totals s t = flag_totals_of s t.source t.total t.leaking

abbrev pub target_totals : Settings → StepTotals → FlagTotals
target_totals s t = flag_totals_of s t.target t.total t.leaking

abbrev pub head_totals : Settings → StepTotals → FlagTotals
head_totals s t = flag_totals_of s t.head t.total t.leaking

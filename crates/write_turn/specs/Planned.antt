-- The shared numbers of a pass, and what scores, rewards and the last three steps do to one validator by them.
use Rattle.std.specs.Prelude.{◌≡◌, ℕ, ◌<◌}
use Rattle.definitions.specs.declared.Settings.{Settings}
use Rattle.definitions.specs.Record.{Validator}
use Rattle.definitions.specs.Checked.{Checked, value, mul64}
use Rattle.definitions.specs.Document.Altair.EpochProcessing.{rotate_participation}
use Rattle.definitions.specs.Rust.Phase0.EpochProcessing.{update_effective_balance}
use Rattle.definitions.specs.Rust.Altair.EpochProcessing.{update_inactivity_score, reward_and_penalize, slash}
use Rattle.rewards.specs.Shared.{SharedBy, totals_of}
use Rattle.write_turn.specs.Runs.{both}
use Rattle.write_turn.specs.declared.Plan.{Plan}

pub record Planned (s : Settings) (p : Plan) : Type 0 where
  pub shared : SharedBy s p.shared
  pub bias : 0 < s.inactivity_score_bias
  pub quotient : 0 < p.quotient
  pub product : p.product ≡ mul64 s.inactivity_score_bias p.quotient
  pub total : 0 < p.shared.total

abbrev pub scored_by : Settings → Plan → Validator → Checked Validator
scored_by s p = update_inactivity_score s p.shared.current_epoch p.shared.previous_epoch p.shared.leaking

abbrev pub rewarded_by : Settings → Plan → Validator → Checked Validator
rewarded_by s p =
    reward_and_penalize s p.quotient p.shared.current_epoch p.shared.previous_epoch (totals_of p.shared p.source) (totals_of p.shared p.target) (totals_of p.shared p.head)

abbrev pub paid_by : Settings → Plan → Validator → Checked Validator
paid_by s p = both (scored_by s p) (rewarded_by s p)

-- slashings, effective balance and flags
abbrev pub last_of : Settings → ℕ → ℕ → ℕ → ℕ → ℕ → Validator → Checked Validator
last_of s epoch total adjusted downward upward =
    both (slash s epoch total adjusted) (both (update_effective_balance s downward upward) (λ v. value (rotate_participation v)))

abbrev pub last_by : Settings → Plan → Validator → Checked Validator
last_by s p = last_of s p.shared.current_epoch p.shared.total p.adjusted p.downward p.upward

-- What the numbers that all validators share stand for.
use Rattle.std.specs.Prelude.{◌≡◌, Bool, ℕ, ◌/◌, ◌≤◌, ◌<◌}
use Rattle.definitions.specs.declared.Settings.{Settings}
use Rattle.definitions.specs.Checked.{mul64}
use Rattle.definitions.specs.Rust.Altair.Helpers.{WEIGHT_DENOMINATOR, get_base_reward_per_increment, FlagTotals}
use Rattle.rewards.specs.declared.Shared.{Shared}

pub record SharedBy (s : Settings) (h : Shared) : Type 0 where
  pub increment : 0 < s.effective_balance_increment
  pub least : s.effective_balance_increment ≤ h.total
  pub per_increment : h.per_increment ≡ get_base_reward_per_increment s h.total
  pub denominator : h.denominator ≡ mul64 (h.total / s.effective_balance_increment) WEIGHT_DENOMINATOR

-- They are made of the two epochs, the total and the leak
pub record Shares (s : Settings) (current previous total : ℕ) (leaking : Bool) (h : Shared) : Type 0 where
  pub by : SharedBy s h
  pub is : h ≡ record { current_epoch = current; previous_epoch = previous; total = total; leaking = leaking; per_increment = h.per_increment; denominator = h.denominator }

-- the totals of a flag whose participants have so many increments
abbrev pub totals_of : Shared → ℕ → FlagTotals
totals_of h increments = record { participating_increments = increments; total_active_balance = h.total; leaking = h.leaking }

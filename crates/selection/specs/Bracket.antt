-- The bracket of a bisection over the eligibility epochs.
use Rattle.std.specs.Prelude.{◌≡◌, List, ℕ, ◌+◌, ◌≤◌}
use Rattle.definitions.specs.Record.{Validator}
use Rattle.laws.specs.Cut.{count}
use Rattle.selection.specs.Keep.{waiting_before}

-- `before` wait since before `low`, which the limit allows, and it allows no more than wait since `high` or before
pub record Bracket (limit finalized_epoch : ℕ) (vs : List Validator) (low high before : ℕ) : Type 0 where
  pub counted : before ≡ count (waiting_before low) vs
  pub under : before ≤ limit
  pub inside : low ≤ high
  pub final : high ≤ finalized_epoch
  pub over : limit ≤ count (waiting_before (high + 1)) vs

-- The step by its numbers, whatever limit of activations the cut is of.
use Rattle.std.specs.Prelude.{List, ℕ}
use Rattle.definitions.specs.declared.Settings.{Settings}
use Rattle.definitions.specs.Record.{Validator}
use Rattle.definitions.specs.Checked.{Checked}
use Rattle.laws.specs.Ran.{Ran}
use Rattle.laws.specs.Cut.{CutAt, eligible_now}
use Rattle.registry.specs.Updates.{updates_by}

pub record UpdatesUnder (stop : ℕ) (s : Settings) (epoch limit finalized_epoch : ℕ) (vs : List Validator) (bound quota : ℕ) (xs : List ℕ) (r : Checked (Unit {0})) : Type 0 where
  pub under : (most : ℕ) → CutAt most finalized_epoch (eligible_now s epoch vs) bound quota → Ran (updates_by stop s epoch limit most finalized_epoch vs) xs r

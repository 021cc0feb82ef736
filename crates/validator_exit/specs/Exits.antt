-- What one pass finds, and one validator's exit.
use Rattle.std.specs.Prelude.{◌≡◌, cond, List, ℕ, length}
use Rattle.definitions.specs.declared.ExitQueue.{ExitQueue}
use Rattle.definitions.specs.declared.Refusal.TheVariants.{BadRecord}
use Rattle.definitions.specs.Record.{Validator, decode}
use Rattle.definitions.specs.Checked.{Checked, value, refused, done}
use Rattle.definitions.specs.Refusals.{good_registry}
use Rattle.definitions.specs.ExitQueue.{queue_of}
use Rattle.definitions.specs.Rust.Phase0.Helpers.{get_active_validator_indices}
use Rattle.exit_queue.specs.Exits.{Leaves}
use Rattle.validator_exit.specs.declared.Seen.{Seen}

unfoldable pub sees : ℕ → List ℕ → Checked Seen
sees epoch registry =
    let found : Seen = record { active = length (get_active_validator_indices (decode registry) epoch); queue = queue_of (decode registry) } in
    cond (good_registry registry) (value found) (refused BadRecord)

-- The registry's pair afterwards or the refusal; and the registry, left as lent where it is refused
pub record LeavesPair (m : Checked (List Validator)) (before after : List ℕ) (r : Checked ExitQueue) : Type 0 where
  pub leaves : Leaves m before after (done r)
  pub queue : {q : ExitQueue} → r ≡ value q → q ≡ queue_of (decode after)

-- What the tests tell once passed, by the settings under the rules.
use Rattle.std.specs.Prelude.{◌≡◌, List, ℕ, ◌*◌, ◌/◌, length}
use Rattle.definitions.specs.declared.Settings.{Settings}
use Rattle.definitions.specs.declared.Finality.{Finality}
use Rattle.definitions.specs.declared.ExitQueue.{ExitQueue}
use Rattle.definitions.specs.Checked.{value}
use Rattle.definitions.specs.Record.{decode}
use Rattle.definitions.specs.ExitQueue.{queue_of}
use Rattle.definitions.specs.Refusals.{justification_tests}
use Rattle.registry_close.specs.Worked.{Tested}

-- of a record with its roots, and lists of its lengths
pub record Ready (s : Settings) (f : Finality) (q : ExitQueue) (registry slashings roots other_registry other_slashings lent : List ℕ) : Type 0 where
  pub opening : Tested s f registry slashings roots
  pub justifies : justification_tests s roots f registry ≡ value tt
  pub registry_same : length other_registry ≡ length registry
  pub slashings_same : length other_slashings ≡ length slashings
  pub amounts : length lent ≡ 9 * (length registry / 10)
  pub queue : q ≡ queue_of (decode registry)

-- The lengths by which a record is put into a file, and the part of the file that stands before the validators.
use Rattle.std.specs.Prelude.{◌≡◌, List, ◌++◌, ℕ, ◌*◌, ◌/◌, length}
use Rattle.definitions.specs.declared.Settings.{Settings}
use Rattle.definitions.specs.declared.Finality.{Finality}
use Rattle.definitions.specs.declared.ExitQueue.{ExitQueue}
use Rattle.definitions.specs.Refusals.{settings_numbers}
use Rattle.definitions_file.specs.File.{Contents, file_length, header, numbers_to_bytes, finality_to_bytes, queue_to_bytes}

-- A record's parts are as long as its settings call for, and so is the file that it is put into
pub record Sized (c : Contents) (file : List ℕ) : Type 0 where
  pub entries : length c.registry ≡ 10 * (length c.registry / 10)
  pub roots : length c.roots ≡ 32 * c.settings.slots_per_historical_root
  pub slashings : length c.slashings ≡ c.settings.epochs_per_slashings_vector
  pub long : length file ≡ file_length 2 (length c.registry / 10) c.settings.slots_per_historical_root c.settings.epochs_per_slashings_vector

-- what `file_of` has before the n validators
unfoldable pub head_of : Settings → Finality → ExitQueue → ℕ → List ℕ
head_of s f q n =
    numbers_to_bytes (header 2 n s.slots_per_historical_root s.epochs_per_slashings_vector)
    ++ numbers_to_bytes (settings_numbers s)
    ++ finality_to_bytes f
    ++ queue_to_bytes q

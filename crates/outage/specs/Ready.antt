-- What a preparation relies on, and what it leaves.
use Rattle.std.specs.Prelude.{List, ◌≡◌, ℕ, ◌*◌, ◌^◌, ◌<◌, ◌≤◌, length}
use Rattle.definitions.specs.declared.Settings.{Settings}
use Rattle.definitions.specs.declared.Finality.{Finality}
use Rattle.definitions_file.specs.File.{contents_with}
use Rattle.definitions_file.specs.OutageInput.{Plan}
use Rattle.definitions_file.specs.OutagePreparation.{prepared}

-- settings and slot of a record that has passed its tests, its roots, and what stands in the tail of the input
pub record Ready (s : Settings) (slot n : ℕ) (registry roots root absences : List ℕ) : Type 0 where
  pub positive : 0 < s.slots_per_epoch
  pub short : s.slots_per_epoch < 2 ^ 48
  pub some-roots : 0 < s.slots_per_historical_root
  pub few-roots : s.slots_per_historical_root ≤ 65536
  pub small : slot < 2 ^ 48
  pub entries : length registry ≡ 10 * n
  pub places : length roots ≡ 32 * s.slots_per_historical_root
  pub bytes : length root ≡ 32
  pub pairs : length absences ≡ 2 * n

-- the record after, whatever its slashings
pub record Prepares (s : Settings) (p : Plan) (before : Finality) (registry roots : List ℕ) (after : Finality) (new_registry new_roots : List ℕ) : Type 0 where
  pub held : (slashings : List ℕ) → contents_with s after new_registry new_roots slashings ≡ prepared p (contents_with s before registry roots slashings)

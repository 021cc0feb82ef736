-- "Reading stops at the first bad number of the first bad entry." Document 01, "Record file".
use Rattle.std.specs.Prelude.{◌≡◌, true, false, List, ℕ, ◌+◌, ◌*◌, ◌≤◌, ◌<◌, length, get_or}
use Rattle.definitions.specs.Lists.{all}
use Rattle.definitions.specs.Record.{Validator, nobody}
use Rattle.definitions.specs.Refusals.{good_validator}
use Rattle.definitions_file.specs.File.{stopped_at}

-- the place of an entry's first bad number: slashed over 1, or flags over 255
pub data FirstBad (v : Validator) : ℕ → Type 0 where
  bad-slashed : 1 < v.slashed → FirstBad v 1
  bad-previous : v.slashed ≤ 1 → 255 < v.previous_epoch_participation → FirstBad v 7
  bad-current : v.slashed ≤ 1 → v.previous_epoch_participation ≤ 255 → 255 < v.current_epoch_participation → FirstBad v 8

-- 80 bytes an entry, 8 a number
pub record Stopped (offset : ℕ) (vs : List Validator) (at : ℕ) : Type 0 where
  pub entry : ℕ
  pub place : ℕ
  pub inside : entry < length vs
  pub before : (j : ℕ) → j < entry → good_validator (get_or vs j nobody) ≡ true
  pub first : FirstBad (get_or vs entry nobody) place
  pub there : at ≡ offset + 80 * entry + 8 * place

abbrev pub StoppedAt : Type 0
StoppedAt = (offset : ℕ) (vs : List Validator) → all good_validator vs ≡ false → Stopped offset vs (stopped_at offset vs)

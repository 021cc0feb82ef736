-- Document 01, "Record file": "A record that passes 1, 2 and 3, written and then read, is the same record; an accepted file,
-- read and then written, is the same bytes." Document 02, R-8: "Only version 2 is written, of records that pass 8 too, and only a version 2
-- file, read and written, is the same bytes." What is handed to the functions, and what comes back.
use Rattle.std.specs.Prelude.{◌≡◌, List, ℕ, length}
use Rattle.definitions.specs.declared.ExitQueue.{ExitQueue}
use Rattle.definitions.specs.Checked.{value}
use Rattle.definitions_file.specs.File.{Contents, version_of, write_tests, read_tests}
use Rattle.definitions_file.specs.declared.ReadAnswer.{ReadAnswer}

-- the record passes with the lent file, and the buffers to read it into are as long as its own
pub record Passes (c : Contents) (q : ExitQueue) (file registry slashings : List ℕ) : Type 0 where
  pub tests : write_tests c q file ≡ value tt
  pub as_many : length registry ≡ length c.registry
  pub as_long : length slashings ≡ length c.slashings

-- reading accepts it, to its end, and the answer and the buffers hold the record
pub record SameRecord (c : Contents) (q : ExitQueue) (file : List ℕ) (r : ReadAnswer) (registry_read slashings_read : List ℕ) : Type 0 where
  pub accepted : r.refusal ≡ 0
  pub to_end : r.position ≡ length file
  pub settings : r.settings ≡ c.settings
  pub finality : r.finality ≡ c.finality
  pub queue : r.queue ≡ q
  pub registry : registry_read ≡ c.registry
  pub slashings : slashings_read ≡ c.slashings

-- reading into these buffers accepts the bytes, which are of version 2, and the file lent to write to is as long
pub record Accepted (bytes registry slashings file : List ℕ) : Type 0 where
  pub tests : read_tests bytes registry slashings ≡ value tt
  pub second : version_of bytes ≡ 2
  pub as_long : length file ≡ length bytes

-- writing accepts what was read, and the file holds the bytes
pub record SameBytes (bytes : List ℕ) (r : ℕ) (file : List ℕ) : Type 0 where
  pub accepted : r ≡ 0
  pub same : file ≡ bytes

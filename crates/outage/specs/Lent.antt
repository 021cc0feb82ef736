-- The buffers lent to a tried outage, and what it leaves in the text. 964000 bytes of text are room for 4096 head lines, for the lines of 814
-- validators, which are all that 65536 bytes hold, and for a refused line.
use Rattle.std.specs.Prelude.{true, List, ◌≡◌, ℕ, ◌*◌, ◌≤◌, length}
use Rattle.definitions.specs.declared.Settings.{Settings}
use Rattle.definitions.specs.declared.Finality.{Finality}
use Rattle.definitions_file.specs.File.{good_header, count_of, root_count_of, slashing_count_of, contents_of}
use Rattle.definitions_file.specs.Listing.{opened}
use Rattle.fields.specs.Put.{Put}

-- a text stands at the front of the lent bytes
pub record Printed (text before after : List ℕ) (last : ℕ) : Type 0 where
  pub put : Put before 0 text after last
  pub inside : last ≤ length before

-- a file with a good header, and buffers exactly as long as it calls for
pub record Exact (file opening absences registry slashings roots closing_registry closing_slashings text : List ℕ) : Type 0 where
  pub header : good_header file ≡ true
  pub few : count_of file ≤ 814
  pub openings : length opening ≡ 10 * count_of file
  pub pairs : length absences ≡ 2 * count_of file
  pub entries : length registry ≡ 10 * count_of file
  pub sums : length slashings ≡ slashing_count_of file
  pub places : length roots ≡ 32 * root_count_of file
  pub closing-entries : length closing_registry ≡ 10 * count_of file
  pub closing-sums : length closing_slashings ≡ slashing_count_of file
  pub bytes : 964000 ≤ length text

-- an accepted file, and what was read from it
pub record Opened (file : List ℕ) (s : Settings) (f : Finality) (registry slashings : List ℕ) : Type 0 where
  pub accepted : (opened file).refusal ≡ 0
  pub settings : s ≡ (contents_of file).settings
  pub finality : f ≡ (contents_of file).finality
  pub entries : registry ≡ (contents_of file).registry
  pub sums : slashings ≡ (contents_of file).slashings

-- buffers that are long enough for every file of at most 65536 bytes
pub record Enough (file opening absences registry slashings roots closing_registry closing_slashings text : List ℕ) : Type 0 where
  pub short : length file ≤ 65536
  pub openings : 8140 ≤ length opening
  pub pairs : 1628 ≤ length absences
  pub entries : 8140 ≤ length registry
  pub sums : 8146 ≤ length slashings
  pub places : 65168 ≤ length roots
  pub closing-entries : 8140 ≤ length closing_registry
  pub closing-sums : 8146 ≤ length closing_slashings
  pub bytes : 964000 ≤ length text

-- What a refused call leaves, and where reading stops. Document 01, "What is returned" and "Record file"; document 02, R-8.
use Rattle.std.specs.Prelude.{◌≡◌, true, false, List, [], ℕ, length, get_or, replicate}
use Rattle.definitions.specs.declared.ExitQueue.{ExitQueue}
use Rattle.definitions.specs.Record.{encode_one, decode, nobody}
use Rattle.definitions.specs.Checked.{value, refused, number_of}
use Rattle.definitions.specs.declared.Refusal.{Refusal}
use Rattle.definitions.specs.declared.Refusal.TheVariants.{BadRecord, WrongQueue}
use Rattle.definitions.specs.Refusals.{settings_numbers, good_settings, good_finality, good_registry}
use Rattle.definitions.specs.ExitQueue.{is_queue_of}
use Rattle.definitions_file.specs.File.{Contents, validators_at, version_of, queue_in, no_queue, finality_to_bytes, write_tests, written, contents_of, number_at, good_header, file_shaped, read_tests, read_file, position, ReadOutcome, read}
use Rattle.laws_file.specs.Stopped.{Stopped}

-- Refused calls

-- a refused read answers its number, zeros and no roots, and leaves the two lent buffers
pub record NothingRead (r : Refusal) (lent_registry lent_slashings : List ℕ) (o : ReadOutcome) : Type 0 where
  pub number : o.refusal ≡ number_of r
  pub settings : settings_numbers o.contents.settings ≡ replicate 19 0
  pub finality : finality_to_bytes o.contents.finality ≡ replicate 136 0
  pub queue : o.queue ≡ no_queue
  pub roots : o.contents.roots ≡ []
  pub registry : o.contents.registry ≡ lent_registry
  pub slashings : o.contents.slashings ≡ lent_slashings

abbrev pub ReadRefused : Type 0
ReadRefused =
    (bytes registry slashings : List ℕ) (r : Refusal) → read_tests bytes registry slashings ≡ refused r → NothingRead r registry slashings (read bytes registry slashings)

abbrev pub WriteRefused : Type 0
WriteRefused = (c : Contents) (q : ExitQueue) (file : List ℕ) (r : Refusal) → write_tests c q file ≡ refused r → written c q file ≡ file

-- An accepted read goes to the end

abbrev pub ReadToEnd : Type 0
ReadToEnd =
    (bytes registry slashings : List ℕ) (c : Contents) → read_file bytes registry slashings ≡ value c → position bytes registry slashings ≡ length bytes

-- "Reading stops at the first bad number of the first bad entry"

-- every other test passes: the answer is 3, and the file has the bad number at the position
pub record StoppedInRegistry (bytes registry slashings : List ℕ) : Type 0 where
  pub answer : read_file bytes registry slashings ≡ refused BadRecord
  pub stopped : Stopped (validators_at (version_of bytes)) (decode (contents_of bytes).registry) (position bytes registry slashings)
  pub number : number_at (position bytes registry slashings) bytes ≡ get_or (encode_one (get_or (decode (contents_of bytes).registry) stopped.entry nobody)) stopped.place 0

abbrev pub RegistryRefused : Type 0
RegistryRefused =
    (bytes registry slashings : List ℕ) →
    good_header bytes ≡ true →
    file_shaped bytes registry slashings ≡ true →
    good_settings (contents_of bytes).settings ≡ true →
    good_finality (contents_of bytes).finality ≡ true →
    good_registry (contents_of bytes).registry ≡ false →
    StoppedInRegistry bytes registry slashings

-- "8, where a stored pair is not that of the register": every other test passes. The position is the pair's, and only version 2 stores one.
pub record StoppedAtQueue (bytes registry slashings : List ℕ) : Type 0 where
  pub answer : read_file bytes registry slashings ≡ refused WrongQueue
  pub there : position bytes registry slashings ≡ 368
  pub stored : version_of bytes ≡ 2

abbrev pub QueueRefused : Type 0
QueueRefused =
    (bytes registry slashings : List ℕ) →
    good_header bytes ≡ true →
    file_shaped bytes registry slashings ≡ true →
    good_settings (contents_of bytes).settings ≡ true →
    good_finality (contents_of bytes).finality ≡ true →
    good_registry (contents_of bytes).registry ≡ true →
    is_queue_of (queue_in bytes) (decode (contents_of bytes).registry) ≡ false →
    StoppedAtQueue bytes registry slashings

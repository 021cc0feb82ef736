-- Document 01, "Record file": "A record that passes 1, 2 and 3, written and then read, is the same record; an accepted file,
-- read and then written, is the same bytes." And document 02, R-8: "Only version 2 is written, of records that pass 8 too, and only a
-- version 2 file, read and written, is the same bytes."
use Rattle.std.specs.Prelude.{◌≡◌, List, ℕ, ◌^◌, ◌<◌, length, get_or}
use Rattle.definitions.specs.declared.Checkpoint.{Checkpoint}
use Rattle.definitions.specs.declared.ExitQueue.{ExitQueue}
use Rattle.definitions.specs.Checked.{value}
use Rattle.definitions.specs.Refusals.{settings_numbers}
use Rattle.definitions_file.specs.File.{Contents, write_tests, written, version_of, queue_in, read_file, position, read}

-- What the types hold, and nothing else

-- numbers of a list, each below n: below 256 in a slice of u8, below 2 ^ 64 in one of u64
pub record Below (n : ℕ) (xs : List ℕ) : Type 0 where
  pub each : (i : ℕ) → i < length xs → get_or xs i 0 < n

-- u64 and [u8; 32]
pub record TypedCheckpoint (c : Checkpoint) : Type 0 where
  pub epoch : c.epoch < 2 ^ 64
  pub root : Below 256 c.root
  pub thirty_two : length c.root ≡ 32

pub record Typed (c : Contents) : Type 0 where
  pub settings : Below (2 ^ 64) (settings_numbers c.settings)
  pub slot : c.finality.slot < 2 ^ 64
  pub bits : c.finality.justification_bits < 2 ^ 64
  pub previous : TypedCheckpoint c.finality.previous_justified_checkpoint
  pub current : TypedCheckpoint c.finality.current_justified_checkpoint
  pub finalized : TypedCheckpoint c.finality.finalized_checkpoint
  pub registry : Below (2 ^ 64) c.registry
  pub roots : Below 256 c.roots
  pub slashings : Below (2 ^ 64) c.slashings

pub record TypedQueue (q : ExitQueue) : Type 0 where
  pub last : q.last_epoch < 2 ^ 64
  pub number : q.number < 2 ^ 64

-- Written, then read

-- the file keeps its length and holds bytes; reading accepts it, goes to its end and finds the same record
pub record SameRecord (c : Contents) (q : ExitQueue) (file registry slashings : List ℕ) : Type 0 where
  pub as_long : length (written c q file) ≡ length file
  pub bytes : Below 256 (written c q file)
  pub second : version_of (written c q file) ≡ 2
  pub same : read_file (written c q file) registry slashings ≡ value c
  pub pair : queue_in (written c q file) ≡ q
  pub to_end : position (written c q file) registry slashings ≡ length (written c q file)
  pub outcome : read (written c q file) registry slashings ≡ record { refusal = 0; position = length file; contents = c; queue = q }

abbrev pub WrittenRead : Type 0
WrittenRead =
    (c : Contents) (q : ExitQueue) (file registry slashings : List ℕ) →
    Typed c →
    TypedQueue q →
    length registry ≡ length c.registry →
    length slashings ≡ length c.slashings →
    write_tests c q file ≡ value tt →
    SameRecord c q file registry slashings

-- Read, then written

-- what was read holds values of its types, passes the tests of writing, and is written as the same bytes
pub record SameBytes (c : Contents) (q : ExitQueue) (bytes file : List ℕ) : Type 0 where
  pub typed : Typed c
  pub typed-pair : TypedQueue q
  pub passes : write_tests c q file ≡ value tt
  pub same : written c q file ≡ bytes

abbrev pub ReadWritten : Type 0
ReadWritten =
    (bytes registry slashings file : List ℕ) (c : Contents) →
    Below 256 bytes →
    read_file bytes registry slashings ≡ value c →
    version_of bytes ≡ 2 →
    length file ≡ length bytes →
    SameBytes c (queue_in bytes) bytes file

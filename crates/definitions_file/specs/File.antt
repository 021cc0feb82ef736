-- Reading and writing a record file. Document 01, "Record file", and document 02, R-8: bytes as a list of numbers below 256.
use Rattle.std.specs.Prelude.{Bool, true, false, cond, ◌&&◌, not, List, [], ◌∷◌, ◌++◌, ℕ, zero, suc, ◌+◌, ◌*◌, ◌-◌, ◌/◌, ◌%◌, ◌^◌, leb, ltb, eqb, length, take, drop, replicate}
use Rattle.definitions.specs.declared.Settings.{Settings}
use Rattle.definitions.specs.declared.Checkpoint.{Checkpoint}
use Rattle.definitions.specs.declared.Finality.{Finality}
use Rattle.definitions.specs.declared.ExitQueue.{ExitQueue}
use Rattle.definitions_file.specs.declared.Header.{Header}
use Rattle.definitions.specs.Record.{Validator, decode}
use Rattle.definitions.specs.Checked.{Checked, value, refused, number_of, bind, code_of, settle}
use Rattle.definitions.specs.declared.Refusal.TheVariants.{BadFile}
use Rattle.definitions.specs.Refusals.{in_order, is_vector_length, settings_shaped, registry_shaped, roots_shaped, slashings_shaped, length_is, settings_numbers, settings_from, good_settings, good_finality, good_validator, good_registry}
use Rattle.definitions.specs.ExitQueue.{queue_of, is_queue_of, queue_test}
use Rattle.definitions.specs.Lists.{every}

-- Numbers: 8 bytes, little-endian

unfoldable pub little_endian : ℕ → ℕ → List ℕ
little_endian zero n = []
little_endian (suc bytes) n = n % 256 ∷ little_endian bytes (n / 256)

unfoldable pub from_little_endian : List ℕ → ℕ
from_little_endian [] = 0
from_little_endian (b ∷ bytes) = b + 256 * from_little_endian bytes

unfoldable pub numbers_to_bytes : List ℕ → List ℕ
numbers_to_bytes [] = []
numbers_to_bytes (x ∷ xs) = little_endian 8 x ++ numbers_to_bytes xs

-- n numbers from the front
unfoldable pub numbers_from_bytes : ℕ → List ℕ → List ℕ
numbers_from_bytes zero bytes = []
numbers_from_bytes (suc n) bytes = from_little_endian (take 8 bytes) ∷ numbers_from_bytes n (drop 8 bytes)

-- Layout: a function of the version, 1 or 2, and of N, S and L

abbrev pub settings_at : ℕ
settings_at = 80

abbrev pub finality_at : ℕ
finality_at = 232

-- R-8: "version 2 with the pair after the finalized checkpoint, so later offsets and the length grow by 16"
abbrev pub queue_at : ℕ
queue_at = 368

abbrev pub validators_at : ℕ → ℕ
validators_at version = 368 + 16 * (version - 1)

abbrev pub roots_at : ℕ → ℕ → ℕ
roots_at version n = validators_at version + 80 * n

abbrev pub slashings_at : ℕ → ℕ → ℕ → ℕ
slashings_at version n S = roots_at version n + 32 * S

abbrev pub file_length : ℕ → ℕ → ℕ → ℕ → ℕ
file_length version n S L = slashings_at version n S + 8 * L

-- version, file length, N, S, L, then the five offsets
abbrev pub header : ℕ → ℕ → ℕ → ℕ → List ℕ
header version n S L =
    version ∷
    file_length version n S L ∷
    n ∷
    S ∷
    L ∷
    settings_at ∷
    finality_at ∷
    validators_at version ∷
    roots_at version n ∷
    slashings_at version n S ∷
    []

-- What a file of either version holds: a record less its exit queue's pair, which `queue_in` gives
pub record Contents : Type 0 where
  pub settings : Settings
  pub finality : Finality
  pub registry : List ℕ
  pub roots : List ℕ
  pub slashings : List ℕ

-- Writing

abbrev pub checkpoint_to_bytes : Checkpoint → List ℕ
checkpoint_to_bytes c = little_endian 8 c.epoch ++ c.root

abbrev pub finality_to_bytes : Finality → List ℕ
finality_to_bytes f =
    little_endian 8 f.slot
    ++ little_endian 8 f.justification_bits
    ++ checkpoint_to_bytes f.previous_justified_checkpoint
    ++ checkpoint_to_bytes f.current_justified_checkpoint
    ++ checkpoint_to_bytes f.finalized_checkpoint

abbrev pub queue_to_bytes : ExitQueue → List ℕ
queue_to_bytes q = little_endian 8 q.last_epoch ++ little_endian 8 q.number

-- R-8: "Only version 2 is written"
unfoldable pub file_of : Contents → ExitQueue → List ℕ
file_of c q =
    numbers_to_bytes (header 2 (length c.registry / 10) c.settings.slots_per_historical_root c.settings.epochs_per_slashings_vector)
    ++ numbers_to_bytes (settings_numbers c.settings)
    ++ finality_to_bytes c.finality
    ++ queue_to_bytes q
    ++ numbers_to_bytes c.registry
    ++ c.roots
    ++ numbers_to_bytes c.slashings

-- 1, then 2, 3, and R-8: "of records that pass 8 too"
unfoldable pub write_tests : Contents → ExitQueue → List ℕ → Checked (Unit {0})
write_tests c q file =
    let s = c.settings in
    let called = file_length 2 (length c.registry / 10) s.slots_per_historical_root s.epochs_per_slashings_vector in
    let lent = roots_shaped s c.roots ∷ slashings_shaped s c.slashings ∷ length_is called file ∷ [] in
    let others = in_order (settings_shaped s ∷ registry_shaped c.registry ∷ lent) (good_settings s ∷ []) (good_finality c.finality ∷ good_registry c.registry ∷ []) in
    bind others (λ _. queue_test q (decode c.registry))

-- the lent file afterwards: untouched where it is refused
unfoldable pub written : Contents → ExitQueue → List ℕ → List ℕ
written c q file = settle (bind (write_tests c q file) (λ _. value (file_of c q))) file

-- Reading

abbrev pub number_at : ℕ → List ℕ → ℕ
number_at offset bytes = from_little_endian (take 8 (drop offset bytes))

-- an epoch, then 32 bytes of root
abbrev pub checkpoint_at : ℕ → List ℕ → Checkpoint
checkpoint_at offset bytes = record { epoch = number_at offset bytes; root = take 32 (drop (offset + 8) bytes) }

abbrev pub finality_from : List ℕ → Finality
finality_from bytes =
    record {
      slot = number_at 232 bytes;
      justification_bits = number_at 240 bytes;
      previous_justified_checkpoint = checkpoint_at 248 bytes;
      current_justified_checkpoint = checkpoint_at 288 bytes;
      finalized_checkpoint = checkpoint_at 328 bytes;
    }

-- version, N, S and L of the header
abbrev pub version_of : List ℕ → ℕ
version_of bytes = number_at 0 bytes

abbrev pub count_of : List ℕ → ℕ
count_of bytes = number_at 16 bytes

abbrev pub root_count_of : List ℕ → ℕ
root_count_of bytes = number_at 24 bytes

abbrev pub slashing_count_of : List ℕ → ℕ
slashing_count_of bytes = number_at 32 bytes

unfoldable pub contents_of : List ℕ → Contents
contents_of bytes =
    let version = version_of bytes in
    let n = count_of bytes in
    let S = root_count_of bytes in
    record {
      settings = settings_from (numbers_from_bytes 19 (drop settings_at bytes));
      finality = finality_from bytes;
      registry = numbers_from_bytes (10 * n) (drop (validators_at version) bytes);
      roots = take (32 * S) (drop (roots_at version n) bytes);
      slashings = numbers_from_bytes (slashing_count_of bytes) (drop (slashings_at version n S) bytes);
    }

abbrev pub queue_from : List ℕ → ExitQueue
queue_from bytes = record { last_epoch = number_at 368 bytes; number = number_at 376 bytes }

-- R-8: "version 1 files are still read and the pair worked out"
unfoldable pub queue_in : List ℕ → ExitQueue
queue_in bytes = cond (eqb (version_of bytes) 2) (queue_from bytes) (queue_of (decode (contents_of bytes).registry))

unfoldable pub same_numbers : List ℕ → List ℕ → Bool
same_numbers [] [] = true
same_numbers [] (y ∷ ys) = false
same_numbers (x ∷ xs) [] = false
same_numbers (x ∷ xs) (y ∷ ys) = eqb x y && same_numbers xs ys

-- Test 6: under 80 bytes, or the header is not as above, or its length is not that of the bytes lent
unfoldable pub good_header : List ℕ → Bool
good_header bytes =
    let version = version_of bytes in
    let n = count_of bytes in
    let S = root_count_of bytes in
    let L = slashing_count_of bytes in
    every (
    leb 80 (length bytes)
    ∷ leb 1 version
    ∷ leb version 2
    ∷ same_numbers (numbers_from_bytes 10 bytes) (header version n S L)
    ∷ eqb (length bytes) (file_length version n S L)
    ∷ []
    )

-- Test 1: N, S and L in range, S and L like their settings, and the two lent buffers as long as called for
unfoldable pub file_shaped : List ℕ → List ℕ → List ℕ → Bool
file_shaped bytes registry slashings =
    let s = (contents_of bytes).settings in
    every (
    leb (count_of bytes) (2 ^ 24)
    ∷ is_vector_length (root_count_of bytes)
    ∷ is_vector_length (slashing_count_of bytes)
    ∷ eqb (root_count_of bytes) s.slots_per_historical_root
    ∷ eqb (slashing_count_of bytes) s.epochs_per_slashings_vector
    ∷ length_is (10 * count_of bytes) registry
    ∷ length_is (slashing_count_of bytes) slashings
    ∷ []
    )

-- 6, then 1, 2, 3, and R-8: "8, where a stored pair is not that of the register; tested after 3"
unfoldable pub read_tests : List ℕ → List ℕ → List ℕ → Checked (Unit {0})
read_tests bytes registry slashings =
    let c = contents_of bytes in
    let recorded = good_finality c.finality ∷ good_registry c.registry ∷ [] in
    let others = in_order (file_shaped bytes registry slashings ∷ []) (good_settings c.settings ∷ []) recorded in
    cond (good_header bytes) (bind others (λ _. queue_test (queue_in bytes) (decode c.registry))) (refused BadFile)

-- what is read, or the refusal; `registry` and `slashings` are the lent buffers
unfoldable pub read_file : List ℕ → List ℕ → List ℕ → Checked Contents
read_file bytes registry slashings = bind (read_tests bytes registry slashings) (λ _. value (contents_of bytes))

-- The position at which reading stopped: parts are read whole and then tested, the registry number by number, and on 8 it is the pair's own

-- the place in an entry of its first number out of range, counted from 0; 10 where there is none
unfoldable pub bad_place : Validator → ℕ
bad_place v =
    cond (leb v.slashed 1) (cond (leb v.previous_epoch_participation 255) (cond (leb v.current_epoch_participation 255) 10 8) 7) 1

-- the offset of the first bad number of the first bad entry, from the entry at `offset` on
unfoldable pub stopped_at : ℕ → List Validator → ℕ
stopped_at offset [] = offset
stopped_at offset (v ∷ vs) = let later = stopped_at (offset + 80) vs in cond (good_validator v) later (offset + 8 * bad_place v)

unfoldable pub position : List ℕ → List ℕ → List ℕ → ℕ
position bytes registry slashings =
    let c = contents_of bytes in
    let from = validators_at (version_of bytes) in
    cond (ltb (length bytes) 80) 0
    (cond (not (good_header bytes)) settings_at
    (cond (not (file_shaped bytes registry slashings && good_settings c.settings)) finality_at
    (cond (not (good_finality c.finality)) queue_at
    (cond (not (good_registry c.registry)) (stopped_at from (decode c.registry))
    (cond (not (is_queue_of (queue_in bytes) (decode c.registry))) queue_at (length bytes))))))

-- What a read answers and what the lent buffers hold afterwards: zeros, an empty part and untouched buffers where it is refused

abbrev pub no_checkpoint : Checkpoint
no_checkpoint = record { epoch = 0; root = replicate 32 0 }

abbrev pub no_finality : Finality
no_finality =
    record {
      slot = 0;
      justification_bits = 0;
      previous_justified_checkpoint = no_checkpoint;
      current_justified_checkpoint = no_checkpoint;
      finalized_checkpoint = no_checkpoint;
    }

abbrev pub no_queue : ExitQueue
no_queue = record { last_epoch = 0; number = 0 }

abbrev pub nothing : List ℕ → List ℕ → Contents
nothing registry slashings =
    record {
      settings = settings_from [];
      finality = no_finality;
      registry = registry;
      roots = [];
      slashings = slashings;
    }

pub record ReadOutcome : Type 0 where
  pub refusal : ℕ
  pub position : ℕ
  pub contents : Contents
  pub queue : ExitQueue

unfoldable pub read : List ℕ → List ℕ → List ℕ → ReadOutcome
read bytes registry slashings =
    record {
      refusal = code_of (read_file bytes registry slashings);
      position = position bytes registry slashings;
      contents = settle (read_file bytes registry slashings) (nothing registry slashings);
      queue = settle (bind (read_tests bytes registry slashings) (λ _. value (queue_in bytes))) no_queue;
    }

-- What the calls are handed and answer by value

abbrev pub contents_with : Settings → Finality → List ℕ → List ℕ → List ℕ → Contents
contents_with s f registry roots slashings =
    record { settings = s; finality = f; registry = registry; roots = roots; slashings = slashings }

-- test 6 alone: N, S and L, or refusal 6 and zeros
abbrev pub no_header : Header
no_header = record { refusal = number_of BadFile; validators = 0; roots = 0; slashings = 0 }

unfoldable pub header_read : List ℕ → Header
header_read bytes =
    cond (good_header bytes)
    (record { refusal = 0; validators = count_of bytes; roots = root_count_of bytes; slashings = slashing_count_of bytes })
    no_header

-- The premises can be met: a record of two validators that is written and read, a file that stops in its second entry, one with a wrong pair,
-- and a file of version 1, whose pair is worked out.
use mathlib.Core.Path.{◌≡◌, refl}
use mathlib.Core.Bool.{true}
use mathlib.Core.List.{List, [], ◌∷◌, ◌++◌}
use Prim.Native.Nat.{ℕ, ◌<◌}
use native.Mathlib.Omega.{arith}
use borrow.Author.Tests.{ltb-true}
use lib.Dec.{ltb, lit<}
use lib.ListN.{take, drop, replicate, get_or-replicate}
use Rattle.definitions.specs.declared.Settings.{Settings}
use Rattle.definitions.specs.declared.Checkpoint.{Checkpoint}
use Rattle.definitions.specs.declared.ExitQueue.{ExitQueue}
use Rattle.definitions.specs.Lists.{all, filter, maximum, every}
use Rattle.definitions.specs.Record.{decode_first, decode}
use Rattle.definitions.specs.Checked.{value, refused, bind}
use Rattle.definitions.specs.declared.Refusal.TheVariants.{BadFile}
use Rattle.definitions.specs.Mainnet.{mainnet}
use Rattle.definitions.specs.Refusals.{in_order, settings_numbers, settings_from, settings_shaped, registry_shaped, good_settings, good_finality, good_validator, good_registry}
use Rattle.definitions.specs.ExitQueue.{queue_of, is_queue_of, queue_test}
use Rattle.definitions_file.specs.File.{Contents, header, finality_to_bytes, queue_to_bytes, queue_in, read_tests, read_file, little_endian, from_little_endian, numbers_to_bytes, numbers_from_bytes, contents_of, file_of, same_numbers, good_header, file_shaped, bad_place, stopped_at, position, write_tests}
use Rattle.laws.proofs.Tests.{both}
use Rattle.round_trip.specs.RoundTrip.{Below, TypedCheckpoint, Typed, SameRecord}
use Rattle.round_trip.specs.Refused.{StoppedInRegistry, StoppedAtQueue}
use Rattle.round_trip.proofs.Numbers.{below_nil, below_cons}
use Rattle.round_trip.proofs.Written.{written_read}
use Rattle.round_trip.proofs.Stopped.{registry-refused, queue-refused}

below_by : (n : ℕ) (xs : List ℕ) → all (λ x. ltb x n) xs ≡ true → Below n xs
unfolding all
below_by n [] e = below_nil
below_by n (x ∷ xs) e =
    let t = both (ltb x n) (all (λ x. ltb x n) xs) e in
    below_cons (ltb-true x n t.0) (below_by n xs t.1)

-- mainnet's settings, but one root and one slashing
abbrev settings : Settings
settings = settings_from (32 ∷ 1 ∷ 1 ∷ drop 3 (settings_numbers mainnet))

abbrev checkpoint : ℕ → Checkpoint
checkpoint e = record { epoch = e; root = replicate 32 e }

abbrev entry : ℕ → ℕ → List ℕ
entry exit flags = 32000000000 ∷ 1 ∷ 0 ∷ 0 ∷ exit ∷ 18446744073709551615 ∷ 32000000001 ∷ flags ∷ 7 ∷ 9 ∷ []

-- the second validator exits at 9; its previous flags as given
abbrev sample : ℕ → Contents
sample flags =
    record {
      settings = settings;
      finality = record { slot = 127; justification_bits = 15; previous_justified_checkpoint = checkpoint 2; current_justified_checkpoint = checkpoint 3; finalized_checkpoint = checkpoint 1 };
      registry = entry 18446744073709551615 255 ++ entry 9 flags;
      roots = replicate 32 255;
      slashings = 18446744073709551615 ∷ [];
    }

-- so many leave at epoch 9
abbrev pair : ℕ → ExitQueue
pair number = record { last_epoch = 9; number = number }

checkpoint-typed : (e : ℕ) → e < 256 → TypedCheckpoint (checkpoint e)
checkpoint-typed e h =
    record { epoch = omega arith; root = record { each = λ i l. rw get_or-replicate h }; thirty_two = refl }

sample-typed : Typed (sample 7)
unfolding all
sample-typed =
    record {
      settings = below_by _ _ refl;
      slot = lit< tt;
      bits = lit< tt;
      previous = checkpoint-typed 2 (lit< tt);
      current = checkpoint-typed 3 (lit< tt);
      finalized = checkpoint-typed 1 (lit< tt);
      registry = below_by _ _ refl;
      roots = below_by _ _ refl;
      slashings = below_by _ _ refl;
    }

sample-passes : write_tests (sample 7) (pair 1) (replicate 584 0) ≡ value tt
unfolding write_tests bind in_order settings_shaped registry_shaped good_settings good_finality good_registry good_validator decode decode_first all queue_test is_queue_of queue_of maximum filter every
sample-passes = refl

pub sample-same : SameRecord (sample 7) (pair 1) (replicate 584 0) (replicate 20 0) (replicate 1 0)
sample-same =
    written_read (sample 7) (pair 1) (replicate 584 0) (replicate 20 0) (replicate 1 0) sample-typed (record { last = lit< tt; number = lit< tt }) refl refl sample-passes

-- the file begins with its header
pub sample-header : take 80 (file_of (sample 7) (pair 1)) ≡ 2 ∷ 0 ∷ 0 ∷ 0 ∷ 0 ∷ 0 ∷ 0 ∷ 0 ∷ 72 ∷ 2 ∷ 0 ∷ 0 ∷ 0 ∷ 0 ∷ 0 ∷ 0 ∷ 2 ∷ 0 ∷ 0 ∷ 0 ∷ 0 ∷ 0 ∷ 0 ∷ 0 ∷ 1 ∷ 0 ∷ 0 ∷ 0 ∷ 0 ∷ 0 ∷ 0 ∷ 0 ∷ 1 ∷ 0 ∷ 0 ∷ 0 ∷ 0 ∷ 0 ∷ 0 ∷ 0 ∷ 80 ∷ 0 ∷ 0 ∷ 0 ∷ 0 ∷ 0 ∷ 0 ∷ 0 ∷ 232 ∷ 0 ∷ 0 ∷ 0 ∷ 0 ∷ 0 ∷ 0 ∷ 0 ∷ 128 ∷ 1 ∷ 0 ∷ 0 ∷ 0 ∷ 0 ∷ 0 ∷ 0 ∷ 32 ∷ 2 ∷ 0 ∷ 0 ∷ 0 ∷ 0 ∷ 0 ∷ 0 ∷ 64 ∷ 2 ∷ 0 ∷ 0 ∷ 0 ∷ 0 ∷ 0 ∷ 0 ∷ []
unfolding file_of numbers_to_bytes little_endian
sample-header = refl

-- flags over 255 in place 7 of entry 1
pub sample-stops : StoppedInRegistry (file_of (sample 256) (pair 1)) (replicate 20 0) (replicate 1 0)
unfolding file_of numbers_to_bytes little_endian contents_of numbers_from_bytes from_little_endian same_numbers good_header file_shaped good_settings good_finality good_registry good_validator decode decode_first all every
sample-stops = registry-refused (file_of (sample 256) (pair 1)) (replicate 20 0) (replicate 1 0) refl refl refl refl refl

pub sample-position : position (file_of (sample 256) (pair 1)) (replicate 20 0) (replicate 1 0) ≡ 520
unfolding position file_of numbers_to_bytes little_endian contents_of numbers_from_bytes from_little_endian same_numbers good_header file_shaped good_settings good_finality good_registry good_validator decode decode_first all bad_place stopped_at every
sample-position = refl

-- a stored pair that says two where one leaves
pub sample-wrong : StoppedAtQueue (file_of (sample 7) (pair 2)) (replicate 20 0) (replicate 1 0)
unfolding file_of numbers_to_bytes little_endian contents_of numbers_from_bytes from_little_endian same_numbers good_header file_shaped good_settings good_finality good_registry good_validator decode decode_first all queue_in is_queue_of queue_of maximum filter every
sample-wrong = queue-refused (file_of (sample 7) (pair 2)) (replicate 20 0) (replicate 1 0) refl refl refl refl refl refl

-- Version 1: the same record, with no pair

-- with the header and the part behind the finality as given
abbrev file_with : List ℕ → List ℕ → List ℕ
file_with numbers queue =
    numbers_to_bytes numbers
    ++ numbers_to_bytes (settings_numbers settings)
    ++ finality_to_bytes (sample 7).finality
    ++ queue
    ++ numbers_to_bytes (sample 7).registry
    ++ (sample 7).roots
    ++ numbers_to_bytes (sample 7).slashings

pub first_read : read_file (file_with (header 1 2 1 1) []) (replicate 20 0) (replicate 1 0) ≡ value (sample 7)
unfolding read_file read_tests bind in_order numbers_to_bytes little_endian contents_of numbers_from_bytes from_little_endian same_numbers good_header file_shaped good_settings good_finality good_registry good_validator decode decode_first all queue_in queue_test is_queue_of queue_of maximum filter every
first_read = refl

pub first-queue : queue_in (file_with (header 1 2 1 1) []) ≡ pair 1
unfolding numbers_to_bytes little_endian contents_of numbers_from_bytes from_little_endian decode decode_first queue_in queue_of maximum filter
first-queue = refl

-- version 1 with the offsets of version 2, pair and all, gets 6
pub first_mixed : read_file (file_with (1 ∷ drop 1 (header 2 2 1 1)) (queue_to_bytes (pair 1))) (replicate 20 0) (replicate 1 0) ≡ refused BadFile
unfolding read_file read_tests bind numbers_to_bytes little_endian numbers_from_bytes from_little_endian same_numbers good_header every
first_mixed = refl

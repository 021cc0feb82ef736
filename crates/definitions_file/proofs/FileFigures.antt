-- Figures of where reading stops, and of the order of what is printed, by computing. A file of one validator, one root and one slashings number.
use mathlib.Core.List.{List, [], ◌∷◌}
use mathlib.Core.Path.{◌≡◌, refl}
use Prim.Native.Nat.{ℕ}
use lib.ListN.{drop, replicate}
use Rattle.definitions.specs.declared.Finality.{Finality}
use Rattle.definitions.specs.declared.ExitQueue.{ExitQueue}
use Rattle.definitions.specs.Lists.{all, every, filter, maximum}
use Rattle.definitions.specs.Record.{decode, decode_first}
use Rattle.definitions.specs.Mainnet.{mainnet}
use Rattle.definitions.specs.Refusals.{settings_from, settings_numbers, settings_shaped, registry_shaped, good_settings, good_finality, good_validator, good_registry}
use Rattle.definitions.specs.ExitQueue.{queue_of, is_queue_of}
use Rattle.definitions_file.specs.Decimal.{digits, decimal}
use Rattle.definitions_file.specs.Lines.{ascii, raised_figures}
use Rattle.definitions_file.specs.File.{Contents, no_checkpoint, little_endian, from_little_endian, numbers_to_bytes, numbers_from_bytes, file_of, contents_of, queue_in, same_numbers, good_header, file_shaped, bad_place, stopped_at, position}

abbrev pub finality : ℕ → ℕ → Finality
finality slot bits =
    record {
      slot = slot;
      justification_bits = bits;
      previous_justified_checkpoint = no_checkpoint;
      current_justified_checkpoint = no_checkpoint;
      finalized_checkpoint = no_checkpoint;
    }

-- of one validator, whose exit epoch is 9
abbrev pub validator : ℕ → ℕ → List ℕ
validator slashed flags = 1 ∷ slashed ∷ 0 ∷ 0 ∷ 9 ∷ 9 ∷ 5 ∷ 0 ∷ flags ∷ 0 ∷ []

abbrev pub contents : Finality → List ℕ → Contents
contents f registry =
    record {
      settings = settings_from (8 ∷ 1 ∷ 1 ∷ drop 3 (settings_numbers mainnet));
      finality = f;
      registry = registry;
      roots = replicate 32 0;
      slashings = 0 ∷ [];
    }

abbrev pub pair : ℕ → ExitQueue
pair number = record { last_epoch = 9; number = number }

abbrev stops : Contents → ExitQueue → ℕ
stops c q = position (file_of c q) (replicate 10 0) (0 ∷ [])

pub record Figures : Type 0 where
  -- accepted: at the file's end
  pub accepted : stops (contents (finality 31 15) (validator 0 7)) (pair 1) ≡ 504
  -- a bad finality: behind it, where the pair begins
  pub bad-bits : stops (contents (finality 31 16) (validator 0 7)) (pair 1) ≡ 368
  pub bad-slot : stops (contents (finality 281_474_976_710_656 15) (validator 0 7)) (pair 1) ≡ 368
  -- the first bad number of an entry
  pub bad-slashed : stops (contents (finality 31 15) (validator 2 256)) (pair 1) ≡ 392
  pub bad-flags : stops (contents (finality 31 15) (validator 0 256)) (pair 1) ≡ 448
  -- a bad pair: its own place
  pub bad-pair : stops (contents (finality 31 15) (validator 0 7)) (pair 2) ≡ 368
  -- 02, R-7: "for active, previous and current totals", in this order
  pub raised : raised_figures (record { active = 1; previous = 2; current = 3 }) ≡ ascii " 1 2 3"

pub figures : Figures
unfolding little_endian from_little_endian numbers_to_bytes numbers_from_bytes file_of contents_of queue_in same_numbers good_header file_shaped bad_place stopped_at position decode decode_first all every filter maximum queue_of is_queue_of settings_shaped registry_shaped good_settings good_finality good_validator good_registry digits decimal
figures =
    record {
      accepted = refl;
      bad-bits = refl;
      bad-slot = refl;
      bad-slashed = refl;
      bad-flags = refl;
      bad-pair = refl;
      raised = refl;
    }

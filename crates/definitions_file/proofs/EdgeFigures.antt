-- Figures at the edges, by computing: each is a file, a shelf or a close at which a program that is nearly right gives another answer
-- (docs/PROOFS.md, "Wrong programs"). The files are those of FileFigures.
use mathlib.Core.List.{List, [], ◌∷◌, ◌++◌}
use mathlib.Core.Path.{◌≡◌, refl}
use Prim.Native.Nat.{ℕ, ◌+◌, ◌^◌}
use lib.ListN.{replicate}
use Rattle.definitions.specs.Lists.{all, every, filter, maximum, sum}
use Rattle.definitions.specs.Record.{decode, decode_first}
use Rattle.definitions.specs.Checked.{code_of, bind}
use Rattle.definitions.specs.Mainnet.{mainnet_bellatrix}
use Rattle.definitions.specs.Refusals.{in_order, after_tests, settings_from, settings_numbers, settings_shaped, registry_shaped, good_settings, good_finality, good_validator, good_registry}
use Rattle.definitions.specs.Rules.{good_rules, good_bellatrix, altair_rules}
use Rattle.definitions.specs.ExitQueue.{queue_of, is_queue_of, queue_test}
use Rattle.definitions.specs.NetChange.{fits_signed, net_change, change_tests}
use Rattle.definitions.specs.Close.{Call, Outcome, charged}
use Rattle.definitions.specs.Document.Phase0.Helpers.{is_active_validator, compute_epoch_at_slot, get_current_epoch, get_previous_epoch}
use Rattle.definitions.specs.Document.Phase0.EpochProcessing.{is_eligible}
use Rattle.definitions_file.specs.Decimal.{digits, decimal, signed_decimal}
use Rattle.definitions_file.specs.Lines.{ascii, lines, close_text, accepted_text, close_printed}
use Rattle.definitions_file.specs.File.{Contents, little_endian, from_little_endian, numbers_to_bytes, numbers_from_bytes, finality_to_bytes, header, file_of, version_of, contents_of, queue_in, same_numbers, good_header, file_shaped, read_tests, read_file, write_tests}
use Rattle.definitions_file.specs.ClosedFile.{file_tests, answer_for}
use Rattle.definitions_file.specs.Shelf.{shelf_of, shelf_shaped, shelf_refusal, answers_for}
use Rattle.definitions_file.proofs.FileFigures.{finality, validator, contents, pair}

-- slashed, and the number of the pair, which is 1
abbrev holding : ℕ → Contents
holding slashed = contents (finality 31 15) (validator slashed 7)

abbrev file : ℕ → ℕ → List ℕ
file slashed number = file_of (holding slashed) (pair number)

-- of version 1, without the pair
abbrev first : List ℕ
first =
    let c = holding 0 in
    numbers_to_bytes (header 1 1 1 1) ++ numbers_to_bytes (settings_numbers c.settings) ++ finality_to_bytes c.finality
    ++ numbers_to_bytes c.registry ++ c.roots ++ numbers_to_bytes c.slashings

abbrev read_code : List ℕ → ℕ
read_code bytes = code_of (read_file bytes (replicate 10 0) (0 ∷ []))

abbrev writing : ℕ → ℕ → ℕ
writing slashed number = code_of (write_tests (holding slashed) (pair number) (replicate 504 0))

-- a shelf of one file of nine bytes, with working lists of so many numbers and so many answers
abbrev nine : ℕ → ℕ → ℕ
nine numbers answers = shelf_refusal (shelf_of (replicate 9 0) (9 ∷ []) (replicate 9 0) (replicate numbers 0) (replicate 2 0) (replicate answers 0))

-- a close of one validator, from this balance to that, and from checkpoints of epoch 0 to these
abbrev call : ℕ → Call
call balance =
    record {
      rules = altair_rules (settings_from (8 ∷ 16 ∷ 1 ∷ []));
      finality = finality 31 3;
      registry = 1 ∷ 0 ∷ 0 ∷ 0 ∷ 9 ∷ 9 ∷ balance ∷ 0 ∷ 0 ∷ 0 ∷ [];
      slashings = 0 ∷ [];
      roots = [];
      closing_registry = [];
      closing_slashings = [];
    }

abbrev outcome : ℕ → Outcome
outcome balance =
    record {
      refusal = 0;
      finality = record {
        slot = 31;
        justification_bits = 7;
        previous_justified_checkpoint = record { epoch = 1; root = [] };
        current_justified_checkpoint = record { epoch = 3; root = [] };
        finalized_checkpoint = record { epoch = 2; root = [] };
      };
      raised = record { active = 0; previous = 0; current = 0 };
      closing_registry = 1 ∷ 0 ∷ 0 ∷ 0 ∷ 9 ∷ 9 ∷ balance ∷ 0 ∷ 0 ∷ 0 ∷ [];
      closing_slashings = 0 ∷ [];
    }

abbrev printed : ℕ → ℕ → List ℕ
printed opening closing = close_printed (call opening) (outcome closing)

pub record Figures : Type 0 where
  -- read and written; 3 before 8, and 8
  pub read : read_code (file 0 1) ≡ 0
  pub three_before_eight : read_code (file 2 2) ≡ 3
  pub written : writing 0 1 ≡ 0
  pub bad_not_written : writing 2 1 ≡ 3
  pub wrong_pair_not_written : writing 0 2 ≡ 8
  pub second-written : version_of (file 0 1) ≡ 2
  -- a byte behind the slashings
  pub longer : read_code (file 0 1 ++ 0 ∷ []) ≡ 6
  -- version 1 has its own offsets and is read, and on a shelf it is 6
  pub first_read : read_code first ≡ 0
  pub first_not_closed : answer_for 0 mainnet_bellatrix first ≡ 6
  -- a file behind one that is refused has its own answer, and is read from its own place
  pub behind_a_refused : answers_for 0 mainnet_bellatrix (3 ∷ 504 ∷ []) (1 ∷ 2 ∷ 3 ∷ file 2 1) ≡ 6 ∷ 3 ∷ []
  -- nine bytes are two numbers, and one answer
  pub good-shelf : nine 2 1 ≡ 0
  pub shorter_list : nine 1 1 ≡ 1
  pub longer-answers : nine 2 2 ≡ 1
  -- bits and checkpoints after the close, the opening's balance and the closing one
  pub after_the_close : printed 5 7 ≡ ascii "epoch 3 justified 3 finalized 2 bits 7 charged 1 0 0 0\n0 5 7 1 0 2\n"
  -- 7 in place of all
  pub seven-alone : printed (2 ^ 63 + 1) 0 ≡ ascii "refused 7\n"

pub figures : Figures
unfolding all every filter maximum sum decode decode_first bind in_order after_tests settings_shaped registry_shaped good_settings good_finality good_validator good_registry good_rules good_bellatrix queue_of is_queue_of queue_test fits_signed net_change change_tests charged is_active_validator compute_epoch_at_slot get_current_epoch get_previous_epoch is_eligible digits decimal signed_decimal lines close_text accepted_text little_endian from_little_endian numbers_to_bytes numbers_from_bytes file_of contents_of queue_in same_numbers good_header file_shaped read_tests read_file write_tests file_tests answer_for shelf_shaped shelf_refusal answers_for
figures =
    record {
      read = refl;
      three_before_eight = refl;
      written = refl;
      bad_not_written = refl;
      wrong_pair_not_written = refl;
      second-written = refl;
      longer = refl;
      first_read = refl;
      first_not_closed = refl;
      behind_a_refused = refl;
      good-shelf = refl;
      shorter_list = refl;
      longer-answers = refl;
      after_the_close = refl;
      seven-alone = refl;
    }

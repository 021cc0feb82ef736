-- Figures of a tried outage, by computing: what comes before a close, and the text. A record of two validators, in epochs of 8 slots, with 16
-- roots, at slot 31.
use mathlib.Core.Bool.{true}
use mathlib.Core.List.{List, [], ◌∷◌, ◌++◌, map}
use mathlib.Core.Path.{◌≡◌, refl}
use Prim.Native.Nat.{ℕ, ◌+◌, ◌*◌, ◌^◌}
use lib.ListN.{get_or, replicate}
use Rattle.definitions.specs.Refusals.{settings_from}
use Rattle.definitions.specs.Lists.{range, every}
use Rattle.definitions.specs.Record.{Validator, encode, decode, decode_first}
use Rattle.definitions.specs.Checked.{bind}
use Rattle.definitions_file.specs.File.{Contents, no_finality, from_little_endian, numbers_from_bytes, good_header, read_tests, read_file, read}
use Rattle.definitions.specs.RegisterOrder.{map_below}
use Rattle.definitions.specs.Document.Phase0.Helpers.{compute_epoch_at_slot, get_current_epoch, compute_start_slot_at_epoch}
use Rattle.definitions_file.specs.Decimal.{digits, decimal, signed_decimal}
use Rattle.definitions.specs.NetChange.{fits_signed, net_change, change_tests}
use Rattle.definitions_file.specs.Lines.{ascii, lines}
use Rattle.definitions_file.specs.OutageInput.{Plan, plan_of, plan_from, epochs_in, good_tail}
use Rattle.definitions_file.specs.OutagePreparation.{last_slot_of_next, put_roots, flags_at, with_flags, with_slot, prepared}
use Rattle.definitions_file.specs.OutageRun.{run_of}
use Rattle.definitions_file.specs.Outage.{lines_text, run_text, text_of, outage}

-- a validator with effective balance 1 and no flags
abbrev holding : ℕ → List ℕ
holding balance = 1 ∷ 0 ∷ 0 ∷ 0 ∷ 9 ∷ 9 ∷ balance ∷ 0 ∷ 0 ∷ 0 ∷ []

abbrev with_registry : List ℕ → Contents
with_registry registry =
    record {
      settings = settings_from (8 ∷ 16 ∷ 1 ∷ []);
      finality = with_slot 31 no_finality;
      registry = registry;
      roots = replicate 512 0;
      slashings = 0 ∷ [];
    }

abbrev before : Contents
before = with_registry (holding 5 ++ holding 6)

-- the first is away in epoch 4, the second in epoch 3
abbrev plan : Plan
plan = plan_of (replicate 32 9) (4 ∷ 4 ∷ 3 ∷ 3 ∷ [])

abbrev current_flags : Contents → List ℕ
current_flags c = map (λ (v : Validator). v.current_epoch_participation) (decode c.registry)

-- what stands behind a file of one validator: 3 epochs, a root of the bytes 101 to 132, away from epoch 5 to 6
abbrev tail : List ℕ
tail = (3 ∷ replicate 7 0) ++ (range 101 32 ++ ((5 ∷ replicate 7 0) ++ (6 ∷ replicate 7 0)))

-- the first byte of each root
abbrev first_bytes : Contents → List ℕ
first_bytes c = map (λ i. get_or c.roots (32 * i) 0) (range 0 16)

pub record Figures : Type 0 where
  -- epoch 4 is closed at its last slot
  pub slot : (prepared plan before).finality.slot ≡ 39
  pub flags : current_flags (prepared plan before) ≡ 0 ∷ 7 ∷ []
  -- slots 31 to 38 have the root, and slot 39 has not
  pub roots : first_bytes (prepared plan before) ≡ 9 ∷ 9 ∷ 9 ∷ 9 ∷ 9 ∷ 9 ∷ 9 ∷ 0 ∷ 0 ∷ 0 ∷ 0 ∷ 0 ∷ 0 ∷ 0 ∷ 0 ∷ 9 ∷ []
  pub first_and_last : map (λ epoch. flags_at epoch 5 6) (4 ∷ 5 ∷ 6 ∷ 7 ∷ []) ≡ 7 ∷ 0 ∷ 0 ∷ 7 ∷ []
  -- "first above last means never"
  pub never : flags_at 5 6 5 ≡ 7
  -- epochs, root and absences where they stand in the input; a root's bytes where they stand among the roots
  pub epochs : epochs_in tail ≡ 3
  pub root_and_absence : plan_from 1 tail ≡ plan_of (range 101 32) (5 ∷ 6 ∷ [])
  pub whole-tail : good_tail 1 tail ≡ true
  pub root-at : put_roots 3 (range 101 32) (replicate 96 0) 4 1 ≡ replicate 32 0 ++ (range 101 32 ++ replicate 32 0)
  -- "with the file's balances as opening"
  pub opening : run_text (with_registry (holding 5)) (run_of 0 [] (with_registry (holding 7))) ≡ ascii "0 5 7 1 0 2\n"
  -- head lines of earlier closes stand, then the refusal
  pub half-way : run_text (with_registry (holding 5)) (run_of 4 (ascii "head\n") (with_registry (holding 7))) ≡ ascii "head\nrefused 4\n"
  -- "7 in place of all validator lines"
  pub seven : run_text (with_registry (holding 5 ++ holding (2 ^ 63))) (run_of 0 (ascii "head\n") (with_registry (holding 7 ++ holding 0))) ≡ ascii "head\n0 5 7 1 0 2\n1 9223372036854775808 0 1 0 -9223372036854775808\n"
  pub seven-beyond : run_text (with_registry (holding 5 ++ holding (2 ^ 63 + 1))) (run_of 0 (ascii "head\n") (with_registry (holding 7 ++ holding 0))) ≡ ascii "head\nrefused 7\n"
  -- a file's own refusal comes first
  pub no_input : outage [] ≡ ascii "refused 6\n"

pub figures : Figures
unfolding prepared last_slot_of_next put_roots with_flags flags_at map_below encode decode decode_first range compute_epoch_at_slot get_current_epoch compute_start_slot_at_epoch outage text_of good_tail from_little_endian numbers_from_bytes good_header read_tests read_file read bind run_text lines_text change_tests net_change fits_signed lines digits decimal signed_decimal every
figures =
    record {
      slot = refl;
      flags = refl;
      roots = refl;
      first_and_last = refl;
      never = refl;
      epochs = refl;
      root_and_absence = refl;
      whole-tail = refl;
      root-at = refl;
      opening = refl;
      half-way = refl;
      seven = refl;
      seven-beyond = refl;
      no_input = refl;
    }

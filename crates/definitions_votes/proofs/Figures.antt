-- Small ballots, worked out: five validators of 32×10^9, all active, slot 31 of epochs of 8 slots.
use mathlib.Core.Path.{◌≡◌, refl}
use mathlib.Core.List.{List, [], ◌∷◌}
use Prim.Native.Nat.{ℕ}
use lib.ListN.{drop, replicate}
use Rattle.definitions.specs.declared.Settings.{Settings}
use Rattle.definitions.specs.declared.Checkpoint.{Checkpoint}
use Rattle.definitions.specs.declared.Finality.{Finality}
use Rattle.definitions.specs.Lists.{filter, sum, all}
use Rattle.definitions.specs.Record.{Validator, FAR_FUTURE_EPOCH}
use Rattle.definitions.specs.Checked.{Checked, value, refused, bind, add64, mul64, sum64}
use Rattle.definitions.specs.declared.Refusal.TheVariants.{NoRoot, Overflow}
use Rattle.definitions.specs.Mainnet.{mainnet}
use Rattle.definitions.specs.Refusals.{settings_numbers, settings_from}
use Rattle.definitions.specs.Document.Phase0.Helpers as document
use Rattle.definitions.specs.Document.Phase0.EpochProcessing.{justified_bits, finalized_by}
use Rattle.definitions.specs.Rust.Phase0.Helpers.{is_active_validator, compute_epoch_at_slot, get_current_epoch, get_previous_epoch, compute_start_slot_at_epoch, get_block_root, get_block_root_at_slot, get_active_validator_indices, get_total_balance, get_total_active_balance}
use Rattle.definitions.specs.Rust.Phase0.EpochProcessing.{is_justified}
use Rattle.definitions.specs.Rust.Altair.Helpers.{add_flag, has_flag, is_unslashed_participating, get_unslashed_participating_indices}
use Rattle.definitions_votes.specs.Filling.{with_target, filled_one, filled}
use Rattle.definitions_votes.specs.Exact.{Ballot, two_thirds, Verdict, none, some, every, Outcome}
use Rattle.definitions_votes.specs.Votes.{finalized_after, verdict, insert_rising, sorted_once, outcome_of, weighed_votes, votes}

abbrev validator : ℕ → ℕ → ℕ → Validator
validator effective before now =
    record {
      effective_balance = effective;
      slashed = 0;
      activation_eligibility_epoch = 0;
      activation_epoch = 0;
      exit_epoch = FAR_FUTURE_EPOCH;
      withdrawable_epoch = FAR_FUTURE_EPOCH;
      balance = effective;
      previous_epoch_participation = before;
      current_epoch_participation = now;
      inactivity_score = 0;
    }

-- mainnet's settings, but epochs of 8 slots, 64 roots and 64 slashings
abbrev small : Settings
small = settings_from (8 ∷ 64 ∷ 64 ∷ drop 3 (settings_numbers mainnet))

abbrev at : ℕ → Checkpoint
at epoch = record { epoch = epoch; root = replicate 32 0 }

-- slot, bits, and the epochs of the three checkpoints
abbrev standing : ℕ → ℕ → ℕ → ℕ → ℕ → Finality
standing slot bits previous current finalized =
    record { slot = slot; justification_bits = bits; previous_justified_checkpoint = at previous; current_justified_checkpoint = at current; finalized_checkpoint = at finalized }

abbrev ballot : Finality → List Validator → List ℕ → Ballot
ballot f vs marks = record { settings = small; roots = replicate 2048 0; finality = f; validators = vs; marks = marks }

abbrev five : ℕ → ℕ → List Validator
five before now = replicate 5 (validator 32_000_000_000 before now)

-- four with the first flags, one with the second
abbrev four_and_one : ℕ → ℕ → List Validator
four_and_one flags other =
    validator 32_000_000_000 flags flags ∷
    validator 32_000_000_000 flags flags ∷
    validator 32_000_000_000 flags flags ∷
    validator 32_000_000_000 flags flags ∷
    validator 32_000_000_000 other other ∷
    []

abbrev marked : ℕ → List ℕ
marked mark = replicate 5 mark

abbrev told : List ℕ → Verdict → Verdict → Checked Outcome
told epochs previous current = value (record { epochs = epochs; previous = previous; current = current })

pub record Figures : Type 0 where
  -- nothing unknown: the listing's record of document 01 finalizes 2
  pub known : votes (ballot (standing 31 3 1 2 1) (four_and_one 7 0) (marked 0)) ≡ told (2 ∷ []) every every
  -- one of five unknown: the other four decide
  pub one-unknown : votes (ballot (standing 31 3 1 2 1) (four_and_one 7 0) (0 ∷ 0 ∷ 0 ∷ 0 ∷ 3 ∷ [])) ≡ told (2 ∷ []) every every
  -- what is stored where the flag is unknown does not count
  pub stored : votes (ballot (standing 31 3 1 2 1) (five 7 7) (marked 3)) ≡ votes (ballot (standing 31 3 1 2 1) (five 0 0) (marked 3))
  -- all unknown, and three epochs can be finalized
  pub three : votes (ballot (standing 31 2 1 2 0) (five 7 0) (marked 3)) ≡ told (0 ∷ 1 ∷ 2 ∷ []) some some
  -- the previous target alone unknown, then the current one alone
  pub previous-alone : votes (ballot (standing 31 2 1 2 0) (five 0 7) (marked 1)) ≡ told (0 ∷ 2 ∷ []) some every
  pub current-alone : votes (ballot (standing 31 2 1 2 0) (five 7 0) (marked 2)) ≡ told (1 ∷ 2 ∷ []) every some
  pub one-epoch : votes (ballot (standing 31 2 1 2 0) (five 0 0) (marked 2)) ≡ told (0 ∷ []) none some
  -- three of five are not two thirds, four are: one unknown vote decides
  pub decided_by_one : votes (ballot (standing 31 2 1 2 0) (validator 32_000_000_000 7 7 ∷ validator 32_000_000_000 7 7 ∷ validator 32_000_000_000 7 7 ∷ validator 32_000_000_000 0 0 ∷ validator 32_000_000_000 0 0 ∷ []) (0 ∷ 0 ∷ 0 ∷ 1 ∷ 0 ∷ [])) ≡ told (0 ∷ 1 ∷ []) some none
  -- no validators: both epochs are justified in every filling
  pub nobody : votes (ballot (standing 31 3 1 2 1) [] []) ≡ told (2 ∷ []) every every
  -- up to epoch 1: the finalized epoch alone, though the roots cannot be looked up
  pub early : votes (ballot (standing 8 3 1 2 5) (five 7 7) (marked 3)) ≡ told (5 ∷ []) none none
  -- at the first slot of an epoch its root cannot be looked up, though no vote wants it
  pub four : votes (ballot (standing 24 3 1 2 1) (five 0 0) (marked 0)) ≡ refused NoRoot
  -- and that comes before 5
  pub four-first : votes (ballot (standing 24 3 1 2 1) (replicate 5 (validator 18446744073709551615 7 7)) (marked 0)) ≡ refused NoRoot
  -- 3 times the target overflows in one filling alone
  pub five-unknown : votes (ballot (standing 31 3 1 2 1) (validator 9000000000000000000 0 0 ∷ []) (2 ∷ [])) ≡ refused Overflow
  pub five-known : votes (ballot (standing 31 3 1 2 1) (validator 9000000000000000000 0 0 ∷ []) (0 ∷ [])) ≡ told (1 ∷ []) none none

pub figures : Figures
unfolding filter sum all bind add64 mul64 sum64 document.get_block_root_at_slot justified_bits finalized_by is_active_validator compute_epoch_at_slot get_current_epoch get_previous_epoch compute_start_slot_at_epoch get_block_root get_block_root_at_slot get_active_validator_indices get_total_balance get_total_active_balance is_justified add_flag has_flag is_unslashed_participating get_unslashed_participating_indices with_target filled_one filled two_thirds finalized_after verdict insert_rising sorted_once outcome_of weighed_votes votes
figures =
    record {
      known = refl;
      one-unknown = refl;
      stored = refl;
      three = refl;
      previous-alone = refl;
      current-alone = refl;
      one-epoch = refl;
      decided_by_one = refl;
      nobody = refl;
      early = refl;
      four = refl;
      four-first = refl;
      five-unknown = refl;
      five-known = refl;
    }

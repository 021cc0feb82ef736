-- Figures, by computing: document 01's worked record rule by rule, its balance of 1000000 that netting would get wrong, its slashing, cut and
-- uncut, the genesis epoch, and which test last set the checkpoint.
use mathlib.Core.Path.{◌≡◌, refl}
use mathlib.Core.List.{List, [], ◌∷◌}
use Prim.Native.Nat.{ℕ}
use lib.ListN.{replicate}
use Rattle.definitions.specs.declared.Deltas.{Deltas}
use Rattle.definitions.specs.declared.Checkpoint.{Checkpoint}
use Rattle.definitions.specs.declared.Finality.{Finality}
use Rattle.definitions.specs.Lists.{filter, sum, range, insert, sorted, maximum}
use Rattle.definitions.specs.Record.{Validator, BeaconState, FAR_FUTURE_EPOCH}
use Rattle.definitions.specs.Checked.{Checked, value, refused, bind, add64, sub64, mul64, sum64, map_checked, fold_checked}
use Rattle.definitions.specs.declared.Refusal.TheVariants.{Overflow}
use Rattle.definitions.specs.Mainnet.{mainnet}
use Rattle.definitions.specs.Document.Phase0.Helpers.{integer_squareroot, root_within, is_eligible_for_activation_queue, is_eligible_for_activation}
use Rattle.definitions.specs.Document.Phase0.Helpers as document
use Rattle.definitions.specs.Document.Phase0.EpochProcessing.{justified_bits, finalized_by, weighed, queue_eligible, is_ejected, activation_queue, dequeued}
use Rattle.definitions.specs.Rust.Phase0.Helpers.{is_active_validator, compute_epoch_at_slot, compute_activation_exit_epoch, get_current_epoch, get_previous_epoch, compute_start_slot_at_epoch, get_block_root, get_block_root_at_slot, get_active_validator_indices, get_validator_churn_limit, get_total_balance, get_total_active_balance, increase_balance, decrease_balance}
use Rattle.definitions.specs.Rust.Phase0.EpochProcessing.{is_justified, root_where, weigh_justification_and_finalization, get_finality_delay, is_in_inactivity_leak, is_eligible, update_registry_at, limited_registry_updates}
use Rattle.definitions.specs.Rust.Altair.Helpers.{has_flag, is_unslashed_participating, get_unslashed_participating_indices, get_base_reward_per_increment, get_base_reward, flag_totals, hit_deltas, miss_deltas, flag_index_deltas, inactivity_penalty_deltas}
use Rattle.definitions.specs.Rust.Altair.EpochProcessing.{moved_score, recovered_score, update_inactivity_score, process_inactivity_updates, apply_delta, all_deltas, reward_and_penalize, process_rewards_and_penalties, is_slashing_due, slashing_penalty, process_justification_and_finalization}
use Rattle.definitions.specs.Close.{limited_step, limited_up_to}
use Rattle.definitions_close.specs.Amounts.{booked, booked_by_rewards, taken_from, taken_by_slashings, nines, amounts, limited_amounts}
use Rattle.definitions_close.specs.FinalizingTest.{last_test, finalizing_test}

-- effective balance 32×10^9, and this balance and these flags of both epochs; 1 is source, 2 target, 4 head
abbrev validator : ℕ → ℕ → Validator
validator balance flags =
    record {
      effective_balance = 32_000_000_000;
      slashed = 0;
      activation_eligibility_epoch = 0;
      activation_epoch = 0;
      exit_epoch = FAR_FUTURE_EPOCH;
      withdrawable_epoch = FAR_FUTURE_EPOCH;
      balance = balance;
      previous_epoch_participation = flags;
      current_epoch_participation = flags;
      inactivity_score = 0;
    }

abbrev flagged : ℕ → Validator
flagged flags = validator 32_000_000_000 flags

-- slashed, with the penalty due at epoch 3
abbrev due : ℕ → Validator
due balance =
    record {
      effective_balance = 32_000_000_000;
      slashed = 1;
      activation_eligibility_epoch = 0;
      activation_epoch = 0;
      exit_epoch = 4;
      withdrawable_epoch = 4099;
      balance = balance;
      previous_epoch_participation = 0;
      current_epoch_participation = 0;
      inactivity_score = 0;
    }

-- slot 127 is the last of epoch 3
abbrev slot : ℕ
slot = 127

abbrev finality : ℕ → ℕ → ℕ → ℕ → Finality
finality bits previous current finalized =
    let at : ℕ → Checkpoint = λ epoch. record { epoch = epoch; root = replicate 32 0 } in
    record {
      slot = slot;
      justification_bits = bits;
      previous_justified_checkpoint = at previous;
      current_justified_checkpoint = at current;
      finalized_checkpoint = at finalized;
    }

-- document 01's worked record, with mainnet's slots_per_epoch
abbrev worked : BeaconState
worked =
    record {
      finality = finality 3 1 2 1;
      validators = flagged 7 ∷ flagged 7 ∷ flagged 7 ∷ flagged 7 ∷ flagged 0 ∷ [];
      slashings = 0 ∷ [];
      block_roots = [];
    }

abbrev pair : ℕ → ℕ → Deltas
pair r p = record { reward = r; penalty = p }

abbrev rewards_at : ℕ → List Validator → Checked (List (List ℕ))
rewards_at state_slot vs = booked_by_rewards mainnet mainnet.inactivity_penalty_quotient_altair state_slot 2 vs

abbrev slashed_at : List Validator → Checked (List ℕ)
slashed_at vs = taken_by_slashings mainnet mainnet.proportional_slashing_multiplier_altair slot (32_000_000_000 ∷ []) vs

abbrev missed : Validator
missed = flagged 4

pub record Figures : Type 0 where
  -- 3456000 more for the first four of 01's listing, and 3200000 less for validator 4
  pub worked_record : amounts mainnet worked ≡ value (896_000 ∷ 0 ∷ 1_664_000 ∷ 0 ∷ 896_000 ∷ 0 ∷ 0 ∷ 0 ∷ 0 ∷ 896_000 ∷ 0 ∷ 1_664_000 ∷ 0 ∷ 896_000 ∷ 0 ∷ 0 ∷ 0 ∷ 0 ∷ 896_000 ∷ 0 ∷ 1_664_000 ∷ 0 ∷ 896_000 ∷ 0 ∷ 0 ∷ 0 ∷ 0 ∷ 896_000 ∷ 0 ∷ 1_664_000 ∷ 0 ∷ 896_000 ∷ 0 ∷ 0 ∷ 0 ∷ 0 ∷ 0 ∷ 1_120_000 ∷ 0 ∷ 2_080_000 ∷ 0 ∷ 0 ∷ 0 ∷ 0 ∷ 0 ∷ [])
  -- "Its four tests": the fourth set its checkpoint, though the second passed as well
  pub worked-test : finalizing_test mainnet worked.finality (process_justification_and_finalization mainnet [] worked.finality worked.validators) ≡ 4
  -- balance 1000000, source and target missed: 1000000 of 1120000 is taken, then nothing of 2080000
  pub cut : rewards_at slot (validator 1_000_000 4 ∷ missed ∷ missed ∷ missed ∷ flagged 0 ∷ []) ≡ value ((0 ∷ 1_000_000 ∷ 0 ∷ 0 ∷ 896_000 ∷ 0 ∷ 0 ∷ 0 ∷ []) ∷ (0 ∷ 1_120_000 ∷ 0 ∷ 2_080_000 ∷ 896_000 ∷ 0 ∷ 0 ∷ 0 ∷ []) ∷ (0 ∷ 1_120_000 ∷ 0 ∷ 2_080_000 ∷ 896_000 ∷ 0 ∷ 0 ∷ 0 ∷ []) ∷ (0 ∷ 1_120_000 ∷ 0 ∷ 2_080_000 ∷ 896_000 ∷ 0 ∷ 0 ∷ 0 ∷ []) ∷ (0 ∷ 1_120_000 ∷ 0 ∷ 2_080_000 ∷ 0 ∷ 0 ∷ 0 ∷ 0 ∷ []) ∷ [])
  -- a reward is not netted with what it pays for
  pub not_netted : booked 5 (pair 3 10 ∷ pair 4 1 ∷ []) ≡ 3 ∷ 8 ∷ 4 ∷ 1 ∷ []
  -- nothing is due at the genesis epoch but by slashing
  pub genesis : rewards_at 31 (flagged 7 ∷ []) ≡ value ((0 ∷ 0 ∷ 0 ∷ 0 ∷ 0 ∷ 0 ∷ 0 ∷ 0 ∷ []) ∷ [])
  -- 12×10^9 is due, and taken as far as there is balance
  pub slashed : slashed_at (due 32_000_000_000 ∷ flagged 7 ∷ flagged 7 ∷ flagged 7 ∷ flagged 7 ∷ []) ≡ value (12_000_000_000 ∷ 0 ∷ 0 ∷ 0 ∷ 0 ∷ [])
  pub slashed-cut : slashed_at (due 1_000_000_000 ∷ flagged 7 ∷ flagged 7 ∷ flagged 7 ∷ flagged 7 ∷ []) ≡ value (1_000_000_000 ∷ 0 ∷ 0 ∷ 0 ∷ 0 ∷ [])
  -- each test alone at epoch 3, the last of two, and none; 0 on refusal
  pub first-test : last_test 3 14 (finality 0 0 5 0) ≡ 1
  pub second-test : last_test 3 6 (finality 0 1 5 0) ≡ 2
  pub third-test : last_test 3 7 (finality 0 5 1 0) ≡ 3
  pub fourth-test : last_test 3 3 (finality 0 5 2 0) ≡ 4
  pub last_of-two : last_test 3 7 (finality 0 1 1 0) ≡ 3
  pub no_test : last_test 3 7 (finality 0 5 5 0) ≡ 0
  pub refused-test : finalizing_test mainnet worked.finality (refused Overflow) ≡ 0

pub figures : Figures
unfolding integer_squareroot root_within get_total_active_balance get_total_balance sum64 sum filter range insert sorted maximum bind add64 sub64 mul64 map_checked fold_checked get_active_validator_indices is_active_validator get_current_epoch get_previous_epoch compute_epoch_at_slot compute_activation_exit_epoch get_base_reward_per_increment get_base_reward flag_totals flag_index_deltas hit_deltas miss_deltas is_eligible is_unslashed_participating get_unslashed_participating_indices has_flag is_in_inactivity_leak get_finality_delay process_rewards_and_penalties all_deltas reward_and_penalize inactivity_penalty_deltas apply_delta increase_balance decrease_balance moved_score recovered_score update_inactivity_score process_inactivity_updates is_slashing_due slashing_penalty is_justified get_block_root_at_slot document.get_block_root_at_slot get_block_root compute_start_slot_at_epoch process_justification_and_finalization weigh_justification_and_finalization root_where weighed justified_bits finalized_by limited_registry_updates update_registry_at queue_eligible is_ejected is_eligible_for_activation_queue is_eligible_for_activation get_validator_churn_limit activation_queue dequeued limited_step limited_up_to booked booked_by_rewards taken_from taken_by_slashings nines limited_amounts last_test finalizing_test
figures =
    record {
      worked_record = refl;
      worked-test = refl;
      cut = refl;
      not_netted = refl;
      genesis = refl;
      slashed = refl;
      slashed-cut = refl;
      first-test = refl;
      second-test = refl;
      third-test = refl;
      fourth-test = refl;
      last_of-two = refl;
      no_test = refl;
      refused-test = refl;
    }

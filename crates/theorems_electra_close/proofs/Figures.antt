-- A figure of the law, computed: document 01's worked record with a sixth validator that is withdrawable, a deposit for the second, one that adds
-- a seventh, and three consolidations. And sums that leave 64 bits.
use mathlib.Core.Path.{◌≡◌, refl}
use mathlib.Core.List.{List, [], ◌∷◌, map}
use Prim.Native.Nat.{ℕ}
use native.Mathlib.Omega.{arith}
use lib.ListN.{length, replicate}
use Rattle.definitions.specs.declared.Checkpoint.{Checkpoint}
use Rattle.definitions.specs.Lists.{range}
use Rattle.definitions.specs.Record.{Validator, FAR_FUTURE_EPOCH}
use Rattle.definitions.specs.Checked.{Checked, value, refused}
use Rattle.history.proofs.Computing.{computing}
use Rattle.definitions_close.specs.Amounts.{booked, booked_by_rewards}
use Rattle.definitions_electra.specs.declared.PendingDeposit.{PendingDeposit}
use Rattle.definitions_electra.specs.Loops.{fold_until_checked}
use Rattle.definitions_electra.specs.Record.{PendingConsolidation, ElectraState, place_of}
use Rattle.definitions_electra.specs.Mainnet.{mainnet_rules}
use Rattle.definitions_electra.specs.Document.Electra.Helpers.{is_eligible_for_activation_queue, get_max_effective_balance, balance_churn_limit, activation_exit_churn_limit}
use Rattle.definitions_electra.specs.Document.Electra.EpochProcessing.{get_validator_from_deposit, add_validator_to_registry, breaks_before, deposits_stop, consolidations_stop}
use Rattle.definitions_electra.specs.Evaluated.Electra.Helpers.{get_activation_exit_churn_limit, initiate_validator_exit}
use Rattle.definitions_electra.specs.Evaluated.Electra.EpochProcessing.{update_registry_at, process_registry_updates, slash, process_slashings, apply_pending_deposit, process_deposit, queueing, left_to_consume, process_pending_deposits, consolidate, process_consolidation, process_pending_consolidations, update_effective_balance, update_effective_balances, process_effective_balance_updates, electra_step, close_up_to, process_epoch}
use Rattle.definitions_electra_close.specs.Amounts.{reward_amounts, taken_from, slashing_amounts, deposit_amounts, move_consolidation, consolidation_amounts, rows, electra_amounts}
use Rattle.theorems_electra_close.specs.Accounted.{row_of, Exactly}

-- by effective balance, exit epoch, withdrawable epoch, balance and the flags of both epochs
abbrev validator : ℕ → ℕ → ℕ → ℕ → ℕ → Validator
validator effective exit withdrawable balance flags =
    record {
      effective_balance = effective;
      slashed = 0;
      activation_eligibility_epoch = 0;
      activation_epoch = 0;
      exit_epoch = exit;
      withdrawable_epoch = withdrawable;
      balance = balance;
      previous_epoch_participation = flags;
      current_epoch_participation = flags;
      inactivity_score = 0;
    }

abbrev flagged : ℕ → Validator
flagged flags = validator 32_000_000_000 FAR_FUTURE_EPOCH FAR_FUTURE_EPOCH 32_000_000_000 flags

-- withdrawable at the next epoch, 4
abbrev withdrawable : ℕ → ℕ → Validator
withdrawable effective balance = validator effective 2 4 balance 0

abbrev checkpoint : ℕ → Checkpoint
checkpoint epoch = record { epoch = epoch; root = replicate 32 0 }

abbrev deposit : ℕ → ℕ → PendingDeposit
deposit key amount = record { pubkey = key; compounding = 1; amount = amount; slot = 0; valid = 1 }

abbrev pair : ℕ → ℕ → PendingConsolidation
pair source target = record { source_index = source; target_index = target }

-- slot 127 is the last of epoch 3
abbrev state : List Validator → List ℕ → List PendingDeposit → List PendingConsolidation → ElectraState
state vs compounding deposits consolidations =
    record {
      altair = record {
        finality = record {
          slot = 127;
          justification_bits = 3;
          previous_justified_checkpoint = checkpoint 1;
          current_justified_checkpoint = checkpoint 2;
          finalized_checkpoint = checkpoint 1;
        };
        validators = vs;
        slashings = 0 ∷ [];
        block_roots = [];
      };
      pubkeys = range 0 (length vs);
      compounding = compounding;
      deposit_balance_to_consume = 0;
      churn = record { exit_balance_to_consume = 0; earliest_exit_epoch = 0 };
      eth1_deposit_index = 0;
      deposit_requests_start_index = 0;
      pending_deposits = deposits;
      pending_consolidations = consolidations;
    }

-- the sixth consolidates with itself, then to the first; the fifth is not withdrawable, so that the queue ends there
abbrev opening : ElectraState
opening =
    state (flagged 7 ∷ flagged 7 ∷ flagged 7 ∷ flagged 7 ∷ flagged 0 ∷ withdrawable 32_000_000_000 33_000_000_000 ∷ []) (replicate 6 1)
    (deposit 1 1_000_000_000 ∷ deposit 6 32_000_000_000 ∷ []) (pair 5 5 ∷ pair 5 0 ∷ pair 4 0 ∷ [])

abbrev balances : Checked ElectraState → List ℕ
balances (value st) = map (λ v. v.balance) st.altair.validators
balances (refused r) = []

-- three moves of 2^63 between two
abbrev back_and_forth : ElectraState
back_and_forth =
    state (withdrawable 9_223_372_036_854_775_808 9_223_372_036_854_775_808 ∷ withdrawable 9_223_372_036_854_775_808 0 ∷ []) (1 ∷ 1 ∷ []) []
    (pair 0 1 ∷ pair 1 0 ∷ pair 0 1 ∷ [])

abbrev numbers : Checked (List ℕ) → List ℕ
numbers (value xs) = xs
numbers (refused r) = []

abbrev validators : Checked ElectraState → List Validator
validators (value st) = st.altair.validators
validators (refused r) = []

pub record Figures : Type 0 where
  pub before : balances (value opening) ≡ 32_000_000_000 ∷ 32_000_000_000 ∷ 32_000_000_000 ∷ 32_000_000_000 ∷ 32_000_000_000 ∷ 33_000_000_000 ∷ []
  pub twelve : electra_amounts mainnet_rules opening ≡ value (
      896_000 ∷ 0 ∷ 1_664_000 ∷ 0 ∷ 896_000 ∷ 0 ∷ 0 ∷ 0 ∷ 0 ∷ 0 ∷ 0 ∷ 32_000_000_000
      ∷ 896_000 ∷ 0 ∷ 1_664_000 ∷ 0 ∷ 896_000 ∷ 0 ∷ 0 ∷ 0 ∷ 0 ∷ 1_000_000_000 ∷ 0 ∷ 0
      ∷ 896_000 ∷ 0 ∷ 1_664_000 ∷ 0 ∷ 896_000 ∷ 0 ∷ 0 ∷ 0 ∷ 0 ∷ 0 ∷ 0 ∷ 0
      ∷ 896_000 ∷ 0 ∷ 1_664_000 ∷ 0 ∷ 896_000 ∷ 0 ∷ 0 ∷ 0 ∷ 0 ∷ 0 ∷ 0 ∷ 0
      ∷ 0 ∷ 1_120_000 ∷ 0 ∷ 2_080_000 ∷ 0 ∷ 0 ∷ 0 ∷ 0 ∷ 0 ∷ 0 ∷ 0 ∷ 0
      ∷ 0 ∷ 0 ∷ 0 ∷ 0 ∷ 0 ∷ 0 ∷ 0 ∷ 0 ∷ 0 ∷ 0 ∷ 64_000_000_000 ∷ 32_000_000_000
      ∷ 0 ∷ 0 ∷ 0 ∷ 0 ∷ 0 ∷ 0 ∷ 0 ∷ 0 ∷ 0 ∷ 32_000_000_000 ∷ 0 ∷ 0 ∷ [])
  pub after : balances (process_epoch mainnet_rules opening) ≡ 64_003_456_000 ∷ 33_003_456_000 ∷ 32_003_456_000 ∷ 32_003_456_000 ∷ 31_996_800_000 ∷ 1_000_000_000 ∷ 32_000_000_000 ∷ []
  -- 2^64 leave the first and 2^63 come in: its amounts, with 0 as out, add up only modulo 2^64; for the second it is the other way round
  pub wrapped : electra_amounts mainnet_rules back_and_forth ≡ value (
      0 ∷ 0 ∷ 0 ∷ 0 ∷ 0 ∷ 0 ∷ 0 ∷ 0 ∷ 0 ∷ 0 ∷ 0 ∷ 9_223_372_036_854_775_808
      ∷ 0 ∷ 0 ∷ 0 ∷ 0 ∷ 0 ∷ 0 ∷ 0 ∷ 0 ∷ 0 ∷ 0 ∷ 9_223_372_036_854_775_808 ∷ 0 ∷ [])
  pub wrapped-after : balances (process_epoch mainnet_rules back_and_forth) ≡ 0 ∷ 9_223_372_036_854_775_808 ∷ []
  pub not_exactly : Exactly back_and_forth.altair.validators (validators (process_epoch mainnet_rules back_and_forth))
      (row_of (numbers (electra_amounts mainnet_rules back_and_forth)) 0) 0 → ⊥

pub figures : Figures
unfolding computing booked booked_by_rewards fold_until_checked place_of is_eligible_for_activation_queue get_max_effective_balance balance_churn_limit activation_exit_churn_limit get_validator_from_deposit add_validator_to_registry breaks_before deposits_stop consolidations_stop get_activation_exit_churn_limit initiate_validator_exit update_registry_at process_registry_updates slash process_slashings apply_pending_deposit process_deposit queueing left_to_consume process_pending_deposits consolidate process_consolidation process_pending_consolidations update_effective_balance update_effective_balances process_effective_balance_updates electra_step close_up_to process_epoch reward_amounts taken_from slashing_amounts deposit_amounts move_consolidation consolidation_amounts rows electra_amounts
figures = record { before = refl; twelve = refl; after = refl; wrapped = refl; wrapped-after = refl; not_exactly = λ e. omega (arith, e) }

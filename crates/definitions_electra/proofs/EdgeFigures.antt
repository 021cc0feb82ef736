-- Figures at the edges, by computing: each is a record at which a program that is nearly right gives another answer (docs/PROOFS.md, "Wrong
-- programs"). The states are those of Figures.
use mathlib.Core.Path.{◌≡◌, refl}
use mathlib.Core.Bool.{true, false}
use mathlib.Core.List.{List, [], ◌∷◌}
use Prim.Native.Nat.{ℕ, ◌-◌}
use lib.ListN.{replicate, get_or}
use Rattle.definitions.specs.Lists.{filter, sum, range, every, all}
use Rattle.definitions.specs.Record.{Validator}
use Rattle.definitions.specs.Checked.{Checked, refused, bind, add64, sub64, mul64, sum64, map_checked, fold_checked}
use Rattle.definitions.specs.declared.Refusal.TheVariants.{Overflow}
use Rattle.definitions.specs.Refusals.{good_settings}
use Rattle.definitions.specs.Rules.{good_bellatrix}
use Rattle.definitions.specs.Mainnet.{mainnet, mainnet_bellatrix}
use Rattle.definitions.specs.Rust.Phase0.Helpers.{is_active_validator, compute_epoch_at_slot, get_current_epoch, compute_start_slot_at_epoch, get_active_validator_indices, get_total_balance, get_total_active_balance, increase_balance, decrease_balance}
use Rattle.definitions.specs.Rust.Altair.EpochProcessing.{is_slashing_due}
use Rattle.definitions_electra.specs.declared.ElectraRules.{ElectraRules}
use Rattle.definitions_electra.specs.Loops.{fold_until_checked}
use Rattle.definitions_electra.specs.Record.{ElectraState, place_of, decode_deposits, first_deposits}
use Rattle.definitions_electra.specs.Mainnet.{mainnet_rules}
use Rattle.definitions_electra.specs.Refusals.{keys_shaped, good_electra, good_deposit, good_deposits}
use Rattle.definitions_electra.specs.Document.Electra.Helpers.{get_max_effective_balance, balance_churn_limit, activation_exit_churn_limit}
use Rattle.definitions_electra.specs.Document.Electra.EpochProcessing.{get_validator_from_deposit, add_validator_to_registry, breaks_before, deposits_stop}
use Rattle.definitions_electra.specs.Evaluated.Electra.Helpers.{get_activation_exit_churn_limit}
use Rattle.definitions_electra.specs.Evaluated.Electra.EpochProcessing.{slash, process_slashings, apply_pending_deposit, process_deposit, queueing, left_to_consume, process_pending_deposits, update_effective_balance, update_effective_balances, process_effective_balance_updates}
use Rattle.definitions_electra.proofs.Figures.{validator, full, state, churn, deposit, balances, effectives, depositing_after}

-- mainnet's, with this least churn limit
abbrev with_least : ℕ → ElectraRules
with_least least =
    record {
      settings = mainnet;
      bellatrix = mainnet_bellatrix;
      electra = record {
        min_activation_balance = 32_000_000_000;
        max_effective_balance_electra = 2_048_000_000_000;
        min_per_epoch_churn_limit_electra = least;
        max_per_epoch_activation_exit_churn_limit = 256_000_000_000;
        max_pending_deposits_per_epoch = 16;
      };
    }

-- a new validator by a deposit of one Gwei and this one, for both of which there is churn, through pending deposits and effective balances
abbrev new_with : ℕ → Checked ElectraState
new_with amount =
    bind (depositing_after (18_446_744_073_709_551_615 - 128_000_000_000) (deposit 4 1 64 1 ∷ deposit 4 amount 64 0 ∷ []))
    (process_effective_balance_updates mainnet_rules)

-- slashed, with its penalty due, and more than its effective balance
abbrev rich : Validator
rich = validator 32_000_000_000 1 9 4099 64_000_000_000

abbrev slashing : List Validator
slashing = rich ∷ full ∷ full ∷ full ∷ full ∷ []

pub record Figures : Type 0 where
  -- balance and threshold, a quarter of an increment, are 2^64 - 1 together; one Gwei more is refused
  pub exact-balance : effectives (new_with 18_446_744_073_459_551_614) ≡ 32_000_000_000 ∷ 32_000_000_000 ∷ 32_000_000_000 ∷ 0 ∷ 2_048_000_000_000 ∷ []
  pub over_by_one : new_with 18_446_744_073_459_551_615 ≡ refused Overflow
  -- 19.2×10^9 by the effective balance, of one that holds twice as much
  pub by-effective : get_or (balances (process_slashings mainnet_rules (state slashing (32_000_000_000 ∷ []) (churn 0 0) [] []))) 0 0
      ≡ 64_000_000_000 - 19_200_000_000
  -- one validator and one deposit: a key of 1 passes, one of 2 does not
  pub last-key : keys_shaped (replicate 10 0) (1 ∷ 0 ∷ 0 ∷ 0 ∷ 0 ∷ []) ≡ true
  pub key-beyond : keys_shaped (replicate 10 0) (2 ∷ 0 ∷ 0 ∷ 0 ∷ 0 ∷ []) ≡ false
  pub valid_of_1 : good_deposits (0 ∷ 0 ∷ 0 ∷ 0 ∷ 1 ∷ []) ≡ true
  pub valid_of_2 : good_deposits (0 ∷ 0 ∷ 0 ∷ 0 ∷ 2 ∷ []) ≡ false
  -- a least churn limit of one increment passes, one below it does not
  pub churn_of_one : good_electra (with_least 1_000_000_000) ≡ true
  pub churn_below_one : good_electra (with_least 999_999_999) ≡ false

pub figures : Figures
unfolding filter sum range every all bind add64 sub64 mul64 sum64 map_checked fold_checked good_settings good_bellatrix is_active_validator compute_epoch_at_slot get_current_epoch compute_start_slot_at_epoch get_active_validator_indices get_total_balance get_total_active_balance increase_balance decrease_balance is_slashing_due fold_until_checked place_of decode_deposits first_deposits keys_shaped good_electra good_deposit good_deposits get_max_effective_balance balance_churn_limit activation_exit_churn_limit get_validator_from_deposit add_validator_to_registry breaks_before deposits_stop get_activation_exit_churn_limit slash process_slashings apply_pending_deposit process_deposit queueing left_to_consume process_pending_deposits update_effective_balance update_effective_balances process_effective_balance_updates
figures =
    record {
      exact-balance = refl;
      over_by_one = refl;
      by-effective = refl;
      last-key = refl;
      key-beyond = refl;
      valid_of_1 = refl;
      valid_of_2 = refl;
      churn_of_one = refl;
      churn_below_one = refl;
    }

-- The smallest records of docs/DIFFERENCES.md, by computing.
use mathlib.Core.Path.{refl}
use mathlib.Core.List.{List, zip_with}
use mathlib.Core.Logic.{inl}
use Prim.Native.Nat.{ℕ}
use native.Mathlib.Omega.{arith}
use Rattle.definitions.specs.Lists.{all, filter, sum, range, sorted, every}
use Rattle.definitions.specs.Record.{decode, decode_first}
use Rattle.definitions.specs.Checked.{bind, add64, sub64, mul64, sum64, map_checked, fold_checked}
use Rattle.definitions.specs.Refusals.{in_order, settings_shaped, registry_shaped, good_settings, good_finality, good_registry, good_validator}
use Rattle.definitions.specs.Rules.{settings_under, rules_shaped, good_bellatrix, good_rules}
use Rattle.definitions.specs.Document.Phase0.Helpers as document_helpers
use Rattle.definitions.specs.Document.Phase0.Helpers.{integer_squareroot, root_within, is_active_validator, decrease_balance, compute_epoch_at_slot, get_current_epoch, get_previous_epoch, get_active_validator_indices, get_validator_churn_limit}
use Rattle.definitions.specs.Document.Phase0.EpochProcessing as document_epoch
use Rattle.definitions.specs.Document.Altair.Helpers as document_altair
use Rattle.definitions.specs.Document.Altair.Helpers.{has_flag, is_unslashed_participating, get_unslashed_participating_indices, get_flag_index_deltas, get_inactivity_penalty_deltas}
use Rattle.definitions.specs.Document.Altair.EpochProcessing as document
use Rattle.definitions.specs.Rust.Phase0.Helpers as rust_helpers
use Rattle.definitions.specs.Rust.Phase0.EpochProcessing as rust_epoch
use Rattle.definitions.specs.Rust.Altair.Helpers as rust_altair
use Rattle.definitions.specs.Rust.Altair.Helpers.{flag_totals, get_base_reward, get_base_reward_per_increment, miss_deltas, inactivity_penalty_deltas}
use Rattle.definitions.specs.Rust.Altair.EpochProcessing as rust
use Rattle.definitions.specs.Close as Rust
use Rattle.definitions.specs.Close.{state_of, limited_tests}
use Rattle.theorems.specs.Completeness.ListByList as by_lists
use Rattle.theorems.specs.Completeness.DocumentIn64Bits as in64
use Rattle.theorems.specs.Completeness.ListByList.{zip_checked}
use Rattle.theorems.specs.Completeness.Rows.{FinalizedAhead, nobody_eligible, nobody_hits, no_validators, at_inactivity, at_effective_balances}
use Rattle.theorems.specs.Completeness.Records.{least, call_of, on_bellatrix, ahead, missed, heavy, Parting, Records}

is-ahead : (registry : List ℕ) → let c = call_of (least 1 0 0) registry 1 1 in FinalizedAhead c.rules.settings (state_of c)
unfolding get_current_epoch get_previous_epoch compute_epoch_at_slot
is-ahead registry = record { started = omega arith; ahead = omega arith }

-- with other numbers in the pair's places nothing of it changes
is_ahead-under : (registry : List ℕ) → let c = on_bellatrix (call_of (least 1 0 0) registry 1 1) in FinalizedAhead (settings_under c.rules) (state_of c)
unfolding settings_under get_current_epoch get_previous_epoch compute_epoch_at_slot
is_ahead-under registry = record { started = omega arith; ahead = omega arith }

-- what is computed below
unfoldable evaluated : Unit {0}
unfolding limited_tests settings_under rules_shaped good_bellatrix good_rules in_order settings_shaped registry_shaped good_settings good_finality good_registry good_validator decode decode_first zip_with all filter sum range sorted bind add64 sub64 mul64 sum64 map_checked fold_checked compute_epoch_at_slot get_current_epoch get_previous_epoch is_active_validator get_active_validator_indices get_validator_churn_limit integer_squareroot root_within decrease_balance is_unslashed_participating has_flag get_unslashed_participating_indices get_flag_index_deltas get_inactivity_penalty_deltas document_helpers.compute_activation_exit_epoch document_helpers.get_total_active_balance document_helpers.get_total_balance document_helpers.increase_balance document_altair.flag_index_deltas document_altair.get_base_reward document_altair.get_base_reward_per_increment document_altair.inactivity_penalty_deltas document_epoch.is_eligible document_epoch.is_in_inactivity_leak document_epoch.get_finality_delay document_epoch.activation_queue document_epoch.dequeued document_epoch.process_registry_updates document_epoch.process_effective_balance_updates document_epoch.process_slashings_reset document_epoch.reset_slashings document.process_justification_and_finalization document.process_inactivity_updates document.process_rewards_and_penalties document.apply_deltas document.apply_delta document.process_slashings document.process_participation_flag_updates document.process_epoch rust_helpers.compute_activation_exit_epoch rust_helpers.get_total_active_balance rust_helpers.get_total_balance rust_helpers.increase_balance rust_epoch.is_in_inactivity_leak rust_epoch.get_finality_delay rust_epoch.limited_registry_updates rust_epoch.process_effective_balance_updates flag_totals get_base_reward get_base_reward_per_increment miss_deltas inactivity_penalty_deltas rust.moved_score rust.apply_delta rust.process_justification_and_finalization rust.process_inactivity_updates rust.process_rewards_and_penalties rust.process_slashings rust.process_participation_flag_updates Rust.limited_step Rust.limited_up_to Rust.limited_epoch zip_checked in64.update_inactivity_score in64.process_inactivity_updates in64.flag_totals in64.flag_index_deltas in64.get_flag_index_deltas in64.process_rewards_and_penalties by_lists.get_inactivity_penalty_deltas rust_altair.get_inactivity_penalty_deltas in64.limited_registry_updates in64.process_effective_balance_updates in64.limited_step in64.limited_epoch every rust_altair.get_flag_index_deltas rust_altair.flag_index_deltas in64.deltas_of_one
evaluated = tt

altair : Parting (λ c. c)
unfolding evaluated
altair =
    record {
      ahead_tests = refl;
      inactivity = record { row = nobody_eligible (is-ahead ahead.registry) refl; rust = refl; document = refl };
      rewards = record { row = nobody_hits (is-ahead ahead.registry) refl refl refl; rust = refl; document = refl };
      ahead_close = record { row = at_inactivity (state_of ahead) refl (nobody_eligible (is-ahead ahead.registry) refl); rust = refl; document = refl };
      missed_tests = refl;
      missed_rewards = record { row = nobody_hits (is-ahead missed.registry) refl refl refl; rust = refl; document = refl };
      missed_leaf = record { row = record { ahead = omega arith; missed = refl }; rust = refl; document = refl };
      missed_close = (refl, refl);
      wide_tests = refl;
      effective_balances = record { row = no_validators refl (inl (omega arith)); rust = refl; document = refl };
      wide_close = record { row = at_effective_balances (no_validators refl (inl (omega arith))); rust = refl; document = refl };
      heavy_tests = refl;
      heavy_row = nobody_hits (is-ahead heavy.registry) refl refl refl;
      heavy_document = refl;
      untested_rust = refl;
      untested_document = refl;
    }

bellatrix : Parting on_bellatrix
unfolding evaluated
bellatrix =
    record {
      ahead_tests = refl;
      inactivity = record { row = nobody_eligible (is_ahead-under ahead.registry) refl; rust = refl; document = refl };
      rewards = record { row = nobody_hits (is_ahead-under ahead.registry) refl refl refl; rust = refl; document = refl };
      ahead_close = record { row = at_inactivity (state_of (on_bellatrix ahead)) refl (nobody_eligible (is_ahead-under ahead.registry) refl); rust = refl; document = refl };
      missed_tests = refl;
      missed_rewards = record { row = nobody_hits (is_ahead-under missed.registry) refl refl refl; rust = refl; document = refl };
      missed_leaf = record { row = record { ahead = omega arith; missed = refl }; rust = refl; document = refl };
      missed_close = (refl, refl);
      wide_tests = refl;
      effective_balances = record { row = no_validators refl (inl (omega arith)); rust = refl; document = refl };
      wide_close = record { row = at_effective_balances (no_validators refl (inl (omega arith))); rust = refl; document = refl };
      heavy_tests = refl;
      heavy_row = nobody_hits (is_ahead-under heavy.registry) refl refl refl;
      heavy_document = refl;
      untested_rust = refl;
      untested_document = refl;
    }

pub records : Records
records = record { altair = altair; bellatrix = bellatrix }

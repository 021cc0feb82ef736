-- To unfold `computing` is to unfold every definition that a close computes with: for the examples, which are checked by computing.
use Rattle.definitions.specs.Lists.{filter, all, sum, range, insert, sorted, maximum, every}
use Rattle.definitions.specs.Checked.{bind, add64, sub64, mul64, sum64, map_checked, fold_checked}
use Rattle.definitions.specs.Refusals.{in_order, settings_shaped, registry_shaped, good_settings, good_finality, good_validator, good_registry, after_tests, closing_buffer}
use Rattle.definitions.specs.Raised.{was_raised, raised_totals, raised_unless_refused}
use Rattle.definitions.specs.Rules.{settings_under, rules_shaped, good_bellatrix, good_rules}
use Rattle.definitions.specs.Document.Phase0.Helpers as document
use Rattle.definitions.specs.Document.Phase0.Helpers.{integer_squareroot, root_within}
use Rattle.definitions.specs.Document.Phase0.EpochProcessing.{justified_bits, finalized_by, weighed, queue_eligible, is_ejected, activation_queue, dequeued, rounded_balance}
use Rattle.definitions.specs.Document.Altair.EpochProcessing.{rotate_participation}
use Rattle.definitions.specs.Rust.Phase0.Helpers.{is_active_validator, is_eligible_for_activation_queue, is_eligible_for_activation, compute_epoch_at_slot, compute_activation_exit_epoch, get_current_epoch, get_previous_epoch, compute_start_slot_at_epoch, get_block_root, get_block_root_at_slot, get_active_validator_indices, get_validator_churn_limit, get_total_balance, get_total_active_balance, increase_balance, decrease_balance, exit_queue_epoch, initiate_validator_exit}
use Rattle.definitions.specs.Rust.Phase0.EpochProcessing.{is_justified, root_where, weigh_justification_and_finalization, get_finality_delay, is_in_inactivity_leak, is_eligible, update_registry_at, limited_registry_updates, update_effective_balance, process_effective_balance_updates, reset_slashings}
use Rattle.definitions.specs.Rust.Altair.Helpers.{has_flag, is_unslashed_participating, get_unslashed_participating_indices, get_base_reward_per_increment, get_base_reward, flag_totals, hit_deltas, miss_deltas, flag_index_deltas, inactivity_penalty_deltas}
use Rattle.definitions.specs.Rust.Altair.EpochProcessing.{process_justification_and_finalization, moved_score, recovered_score, update_inactivity_score, process_inactivity_updates, apply_delta, all_deltas, reward_and_penalize, process_rewards_and_penalties, is_slashing_due, slashing_penalty, slash, process_slashings, process_participation_flag_updates}
use Rattle.definitions.specs.Close.{limited_step, limited_up_to, limited_epoch, limited_tests, closed, close}
use Rattle.definitions.specs.Record.{encode, decode_first, decode}

unfoldable pub computing : Unit {0}
unfolding filter all sum range insert sorted maximum encode decode_first decode bind add64 sub64 mul64 sum64 map_checked fold_checked in_order settings_shaped registry_shaped good_settings good_finality good_validator good_registry settings_under rules_shaped good_bellatrix good_rules after_tests closing_buffer was_raised raised_totals raised_unless_refused integer_squareroot root_within justified_bits finalized_by weighed queue_eligible is_ejected activation_queue dequeued rounded_balance rotate_participation is_active_validator is_eligible_for_activation_queue is_eligible_for_activation compute_epoch_at_slot compute_activation_exit_epoch get_current_epoch get_previous_epoch compute_start_slot_at_epoch get_block_root get_block_root_at_slot document.get_block_root_at_slot get_active_validator_indices get_validator_churn_limit get_total_balance get_total_active_balance increase_balance decrease_balance exit_queue_epoch initiate_validator_exit is_justified root_where weigh_justification_and_finalization get_finality_delay is_in_inactivity_leak is_eligible update_registry_at limited_registry_updates update_effective_balance process_effective_balance_updates reset_slashings has_flag is_unslashed_participating get_unslashed_participating_indices get_base_reward_per_increment get_base_reward flag_totals hit_deltas miss_deltas flag_index_deltas inactivity_penalty_deltas process_justification_and_finalization moved_score recovered_score update_inactivity_score process_inactivity_updates apply_delta all_deltas reward_and_penalize process_rewards_and_penalties is_slashing_due slashing_penalty slash process_slashings process_participation_flag_updates limited_step limited_up_to limited_epoch limited_tests closed close every
computing = tt

-- Tests 1, 2 and 3 for the leaves: each tests exactly the lent numbers that have a stated range. Document 01, below the table of
-- "What is returned". `entry` is one validator's ten numbers, lent alone.
use Rattle.std.specs.Prelude.{Bool, ◌||◌, not, List, [], ◌∷◌, ℕ, ◌/◌, leb, ltb, eqb, length}
use Rattle.definitions.specs.declared.Settings.{Settings}
use Rattle.definitions.specs.declared.Finality.{Finality}
use Rattle.definitions.specs.Record.{decode_one}
use Rattle.definitions.specs.Checked.{Checked}
use Rattle.definitions.specs.Document.Phase0.Helpers.{get_current_epoch, get_previous_epoch}
use Rattle.definitions.specs.Refusals.{in_order, settings_shaped, registry_shaped, roots_shaped, length_is, is_small, good_settings, good_finality, good_validator, good_registry}

abbrev pub entry_shaped : List ℕ → Bool
entry_shaped entry = length_is 10 entry

abbrev pub good_entry : List ℕ → Bool
good_entry entry = good_validator (decode_one entry)

abbrev pub is_index : ℕ → List ℕ → Bool
is_index index registry = ltb index (length registry / 10)

abbrev pub is_flag_index : ℕ → Bool
is_flag_index flag_index = leb flag_index 2

-- the previous or the current epoch; where slots_per_epoch is 0 there is neither, and test 2 refuses
abbrev pub is_participation_epoch : Settings → ℕ → ℕ → Bool
is_participation_epoch s state_slot epoch =
    eqb s.slots_per_epoch 0 || eqb epoch (get_previous_epoch s state_slot) || eqb epoch (get_current_epoch s state_slot)

-- has_flag, add_flag
unfoldable pub flag_tests : ℕ → Checked (Unit {0})
flag_tests flag_index = in_order (leb flag_index 7 ∷ []) [] []

-- is_active_validator, increase_balance, decrease_balance
unfoldable pub entry_tests : List ℕ → Checked (Unit {0})
entry_tests entry = in_order (entry_shaped entry ∷ []) [] (good_entry entry ∷ [])

-- is_eligible_for_activation
unfoldable pub finalized_entry_tests : ℕ → List ℕ → Checked (Unit {0})
finalized_entry_tests finalized_epoch entry = in_order (entry_shaped entry ∷ []) [] (is_small finalized_epoch ∷ good_entry entry ∷ [])

-- is_eligible_for_activation_queue
unfoldable pub settings_entry_tests : Settings → List ℕ → Checked (Unit {0})
settings_entry_tests s entry = in_order (settings_shaped s ∷ entry_shaped entry ∷ []) (good_settings s ∷ []) (good_entry entry ∷ [])

-- eligibility for rewards
unfoldable pub slot_entry_tests : Settings → ℕ → List ℕ → Checked (Unit {0})
slot_entry_tests s state_slot entry = in_order (settings_shaped s ∷ entry_shaped entry ∷ []) (good_settings s ∷ []) (is_small state_slot ∷ good_entry entry ∷ [])

-- unslashed participation
unfoldable pub participation_entry_tests : Settings → ℕ → ℕ → ℕ → List ℕ → Checked (Unit {0})
participation_entry_tests s state_slot flag_index epoch entry =
    let shaped = settings_shaped s ∷ entry_shaped entry ∷ is_flag_index flag_index ∷ is_participation_epoch s state_slot epoch ∷ [] in
    in_order shaped (good_settings s ∷ []) (is_small state_slot ∷ good_entry entry ∷ [])

-- compute_epoch_at_slot, compute_start_slot_at_epoch, compute_activation_exit_epoch: their slot or epoch is any number
unfoldable pub settings_tests : Settings → Checked (Unit {0})
settings_tests s = in_order (settings_shaped s ∷ []) (good_settings s ∷ []) []

-- get_current_epoch, get_previous_epoch
unfoldable pub slot_tests : Settings → ℕ → Checked (Unit {0})
slot_tests s state_slot = in_order (settings_shaped s ∷ []) (good_settings s ∷ []) (is_small state_slot ∷ [])

-- get_finality_delay, is_in_inactivity_leak
unfoldable pub finalized_tests : Settings → ℕ → ℕ → Checked (Unit {0})
finalized_tests s state_slot finalized_epoch = in_order (settings_shaped s ∷ []) (good_settings s ∷ []) (is_small state_slot ∷ is_small finalized_epoch ∷ [])

-- get_block_root_at_slot, get_block_root: the slot or epoch that is wanted is any number
unfoldable pub root_tests : Settings → List ℕ → ℕ → Checked (Unit {0})
root_tests s roots state_slot = in_order (settings_shaped s ∷ roots_shaped s roots ∷ []) (good_settings s ∷ []) (is_small state_slot ∷ [])

-- weigh_justification_and_finalization: the three totals are any numbers
unfoldable pub weigh_tests : Settings → List ℕ → Finality → Checked (Unit {0})
weigh_tests s roots f = in_order (settings_shaped s ∷ roots_shaped s roots ∷ []) (good_settings s ∷ []) (good_finality f ∷ [])

-- get_total_active_balance, get_validator_churn_limit, charged
unfoldable pub slot_registry_tests : Settings → ℕ → List ℕ → Checked (Unit {0})
slot_registry_tests s state_slot registry =
    in_order (settings_shaped s ∷ registry_shaped registry ∷ []) (good_settings s ∷ []) (is_small state_slot ∷ good_registry registry ∷ [])

-- the participating balance of a flag
unfoldable pub participation_tests : Settings → ℕ → ℕ → ℕ → List ℕ → Checked (Unit {0})
participation_tests s state_slot flag_index epoch registry =
    let shaped = settings_shaped s ∷ registry_shaped registry ∷ is_flag_index flag_index ∷ is_participation_epoch s state_slot epoch ∷ [] in
    in_order shaped (good_settings s ∷ []) (is_small state_slot ∷ good_registry registry ∷ [])

-- initiate_validator_exit
unfoldable pub exit_tests : Settings → ℕ → ℕ → List ℕ → Checked (Unit {0})
exit_tests s state_slot index registry =
    in_order (settings_shaped s ∷ registry_shaped registry ∷ is_index index registry ∷ []) (good_settings s ∷ []) (is_small state_slot ∷ good_registry registry ∷ [])

-- get_flag_index_deltas
unfoldable pub flag_deltas_tests : Settings → ℕ → ℕ → ℕ → ℕ → List ℕ → Checked (Unit {0})
flag_deltas_tests s state_slot finalized_epoch flag_index index registry =
    let shaped = settings_shaped s ∷ registry_shaped registry ∷ is_flag_index flag_index ∷ is_index index registry ∷ [] in
    in_order shaped (good_settings s ∷ []) (is_small state_slot ∷ is_small finalized_epoch ∷ good_registry registry ∷ [])

-- get_base_reward_per_increment: "a total of 0 to divide by answers 1"
unfoldable pub total_tests : Settings → ℕ → Checked (Unit {0})
total_tests s total = in_order (settings_shaped s ∷ not (eqb total 0) ∷ []) (good_settings s ∷ []) []

-- get_base_reward
unfoldable pub total_entry_tests : Settings → ℕ → List ℕ → Checked (Unit {0})
total_entry_tests s total entry = in_order (settings_shaped s ∷ not (eqb total 0) ∷ entry_shaped entry ∷ []) (good_settings s ∷ []) (good_entry entry ∷ [])

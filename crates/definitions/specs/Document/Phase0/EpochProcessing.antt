-- phase0/beacon-chain.md, section Epoch processing, as far as Altair keeps it.
use Rattle.std.specs.Prelude.{Bool, cond, ◌&&◌, ◌||◌, ℕ, ◌+◌, ◌-◌, ◌*◌, ◌/◌, ◌%◌, ◌^◌, min, leb, ltb, eqb, length, get_or, take, set}
use mathlib.Core.List.{List, map, foldl}
use Rattle.definitions.specs.declared.Settings.{Settings}
use Rattle.definitions.specs.declared.Checkpoint.{Checkpoint}
use Rattle.definitions.specs.declared.Finality.{Finality}
use Rattle.definitions.specs.Lists.{filter, range, sorted}
use Rattle.definitions.specs.Record.{Validator, BeaconState, is_slashed, nobody}
use Rattle.definitions.specs.Updates.{with_effective_balance, with_eligibility, with_activation, with_validators, with_slashings}
use Rattle.definitions.specs.Document.Phase0.Helpers.{is_active_validator, is_eligible_for_activation_queue, is_eligible_for_activation, compute_activation_exit_epoch, get_current_epoch, get_previous_epoch, get_block_root, get_validator_churn_limit, initiate_validator_exit}

-- Justification and finalization

-- state.justification_bits[i], a Bitvector of four as one number; also has_flag's test (altair)
abbrev pub bit : ℕ → ℕ → Bool
bit i bits = eqb (bits / 2 ^ i % 2) 1

-- state.justification_bits[i] = 0b1; also add_flag's (altair)
abbrev pub with_bit : ℕ → ℕ → ℕ
with_bit i bits = cond (bit i bits) bits (bits + 2 ^ i)

-- phase0, weigh_justification_and_finalization: the shift `justification_bits[1:] = justification_bits[:-1]` and the two bits set
-- the bits move up by one of four, and the two epochs' bits are set where their tests passed
unfoldable pub justified_bits : Bool → Bool → ℕ → ℕ
justified_bits previous current bits =
    let moved = 2 * bits % 16 in
    let after = cond previous (with_bit 1 moved) moved in
    cond current (with_bit 0 after) after

-- phase0, weigh_justification_and_finalization: Process finalizations, from the 2nd/3rd/4th to the 1st most recent epochs
-- the four tests: old checkpoints, new bits, and a later test overrides
unfoldable pub finalized_by : ℕ → ℕ → Finality → Checkpoint
finalized_by epoch bits old =
    let previous = old.previous_justified_checkpoint in
    let current = old.current_justified_checkpoint in
    let first = cond (bit 1 bits && bit 2 bits && bit 3 bits && eqb (previous.epoch + 3) epoch) previous old.finalized_checkpoint in
    let second = cond (bit 1 bits && bit 2 bits && eqb (previous.epoch + 2) epoch) previous first in
    let third = cond (bit 0 bits && bit 1 bits && bit 2 bits && eqb (current.epoch + 2) epoch) current second in
    cond (bit 0 bits && bit 1 bits && eqb (current.epoch + 1) epoch) current third

-- phase0, weigh_justification_and_finalization: all that it writes
-- what comes of the two tests; a root is read only where its test passed
unfoldable pub weighed : ℕ → ℕ → Bool → Bool → List ℕ → List ℕ → Finality → Finality
weighed previous_epoch current_epoch previous current previous_root current_root old =
    record {
      slot = old.slot;
      justification_bits = justified_bits previous current old.justification_bits;
      previous_justified_checkpoint = old.current_justified_checkpoint;
      current_justified_checkpoint =
          cond current (record { epoch = current_epoch; root = current_root })
          (cond previous (record { epoch = previous_epoch; root = previous_root }) old.current_justified_checkpoint);
      finalized_checkpoint = finalized_by current_epoch (justified_bits previous current old.justification_bits) old;
    }

unfoldable pub weigh_justification_and_finalization : Settings → List ℕ → Finality → ℕ → ℕ → ℕ → Finality
weigh_justification_and_finalization s roots old total_active_balance previous_epoch_target_balance current_epoch_target_balance =
    let previous_epoch = get_previous_epoch s old.slot in
    let current_epoch = get_current_epoch s old.slot in
    weighed
    previous_epoch
    current_epoch
    (leb (total_active_balance * 2) (previous_epoch_target_balance * 3))
    (leb (total_active_balance * 2) (current_epoch_target_balance * 3))
    (get_block_root s roots previous_epoch)
    (get_block_root s roots current_epoch)
    old

-- Rewards and penalties

-- Left out: a uint64 below 0 fails. Where the text meets that, and the Rust: theorems, Completeness/DocumentIn64Bits.antt.
unfoldable pub get_finality_delay : Settings → ℕ → ℕ → ℕ
get_finality_delay s state_slot finalized_epoch = get_previous_epoch s state_slot - finalized_epoch

unfoldable pub is_in_inactivity_leak : Settings → ℕ → ℕ → Bool
is_in_inactivity_leak s state_slot finalized_epoch =
    ltb s.min_epochs_to_inactivity_penalty (get_finality_delay s state_slot finalized_epoch)

-- phase0, Rewards and penalties, Helpers: get_eligible_validator_indices
-- the test of get_eligible_validator_indices
unfoldable pub is_eligible : ℕ → Validator → Bool
is_eligible previous_epoch v =
    is_active_validator v previous_epoch || (is_slashed v && ltb (previous_epoch + 1) v.withdrawable_epoch)

-- Registry updates

-- phase0, process_registry_updates: is_eligible_for_activation_queue, then activation_eligibility_epoch = get_current_epoch(state) + 1
-- the first test of the loop writes the eligibility epoch
unfoldable pub queue_eligible : Settings → ℕ → Validator → Validator
queue_eligible s current_epoch v = cond (is_eligible_for_activation_queue s v) (with_eligibility (current_epoch + 1) v) v

-- phase0, process_registry_updates: is_active_validator and effective_balance <= EJECTION_BALANCE
-- the second test asks for an ejection
unfoldable pub is_ejected : Settings → ℕ → Validator → Bool
is_ejected s current_epoch v = is_active_validator v current_epoch && leb v.effective_balance s.ejection_balance

-- phase0, process_registry_updates: Process activation eligibility and ejections, one turn
-- the loop's turn at an index
unfoldable pub update_registry_at : Settings → ℕ → List Validator → ℕ → List Validator
update_registry_at s state_slot vs index =
    let current_epoch = get_current_epoch s state_slot in
    let queued = set vs index (queue_eligible s current_epoch (get_or vs index nobody)) in
    cond (is_ejected s current_epoch (get_or queued index nobody)) (initiate_validator_exit s state_slot queued index) queued

-- phase0, process_registry_updates: the key of `sorted`
-- (activation_eligibility_epoch, index), in this order
abbrev pub queues_before : List Validator → ℕ → ℕ → Bool
queues_before vs i j =
    let a = (get_or vs i nobody).activation_eligibility_epoch in
    let b = (get_or vs j nobody).activation_eligibility_epoch in
    ltb a b || (eqb a b && ltb i j)

-- phase0, process_registry_updates: activation_queue
-- the indices of those eligible for activation, sorted by that key
unfoldable pub activation_queue : ℕ → List Validator → List ℕ
activation_queue finalized_epoch vs =
    sorted (queues_before vs) (filter (λ i. is_eligible_for_activation finalized_epoch (get_or vs i nobody)) (range 0 (length vs)))

-- phase0, process_registry_updates: validator.activation_epoch = compute_activation_exit_epoch(..)
abbrev pub activate_at : ℕ → List Validator → ℕ → List Validator
activate_at epoch vs index = set vs index (with_activation epoch (get_or vs index nobody))

-- phase0, process_registry_updates: Dequeued validators for activation up to churn limit
-- the first `limit` of the queue are dequeued for activation
unfoldable pub dequeued : ℕ → ℕ → ℕ → List Validator → List Validator
dequeued epoch limit finalized_epoch vs = foldl (activate_at epoch) vs (take limit (activation_queue finalized_epoch vs))

unfoldable pub process_registry_updates : Settings → BeaconState → BeaconState
process_registry_updates s st =
    let state_slot = st.finality.slot in
    let queued = foldl (update_registry_at s state_slot) st.validators (range 0 (length st.validators)) in
    let epoch = compute_activation_exit_epoch s (get_current_epoch s state_slot) in
    let limit = get_validator_churn_limit s state_slot queued in
    with_validators (dequeued epoch limit st.finality.finalized_checkpoint.epoch queued) st

-- Effective balances updates

-- phase0, process_effective_balance_updates: min(balance - balance % EFFECTIVE_BALANCE_INCREMENT, MAX_EFFECTIVE_BALANCE)
-- balance rounded down to an increment, and at most the maximum
unfoldable pub rounded_balance : Settings → Validator → ℕ
rounded_balance s v = min (v.balance - v.balance % s.effective_balance_increment) s.max_effective_balance

-- phase0, process_effective_balance_updates: Update effective balances with hysteresis, one turn
unfoldable pub update_effective_balance : Settings → Validator → Validator
update_effective_balance s v =
    let increment = s.effective_balance_increment / s.hysteresis_quotient in
    let downward = increment * s.hysteresis_downward_multiplier in
    let upward = increment * s.hysteresis_upward_multiplier in
    let moved = ltb (v.balance + downward) v.effective_balance || ltb (v.effective_balance + upward) v.balance in
    cond moved (with_effective_balance (rounded_balance s v) v) v

unfoldable pub process_effective_balance_updates : Settings → BeaconState → BeaconState
process_effective_balance_updates s st = with_validators (map (update_effective_balance s) st.validators) st

-- Slashings balances updates

-- phase0, process_slashings_reset: state.slashings[next_epoch % EPOCHS_PER_SLASHINGS_VECTOR] = Gwei(0)
unfoldable pub reset_slashings : Settings → ℕ → List ℕ → List ℕ
reset_slashings s state_slot slashings = set slashings ((get_current_epoch s state_slot + 1) % s.epochs_per_slashings_vector) 0

unfoldable pub process_slashings_reset : Settings → BeaconState → BeaconState
process_slashings_reset s st = with_slashings (reset_slashings s st.finality.slot st.slashings) st

-- phase0/beacon-chain.md, section Helper functions.
use Rattle.std.specs.Prelude.{Bool, cond, ◌&&◌, not, List, map, ℕ, zero, suc, ◌+◌, ◌-◌, ◌*◌, ◌/◌, ◌%◌, max, leb, ltb, eqb, length, get_or, take, drop, set}
use Rattle.definitions.specs.declared.Settings.{Settings}
use Rattle.definitions.specs.Lists.{filter, sum, maximum}
use Rattle.definitions.specs.Record.{Validator, FAR_FUTURE_EPOCH, GENESIS_EPOCH, nobody}
use Rattle.definitions.specs.Updates.{with_balance, with_exit}

-- Math

-- phase0, Math: integer_squareroot, which the text works out by Newton's method; a turn of ours, one bit of the root
-- two more bits of n give one more bit of the root
abbrev next_root : ℕ → ℕ → ℕ
next_root n r = cond (leb ((2 * r + 1) * (2 * r + 1)) n) (2 * r + 1) (2 * r)

-- phase0, Math: integer_squareroot by two bits at a time; `fuel` bounds the turns
unfoldable pub root_within : ℕ → ℕ → ℕ
root_within zero n = 0
root_within (suc fuel) zero = 0
root_within (suc fuel) (suc m) = next_root (suc m) (root_within fuel (suc m / 4))

-- the largest integer x such that x**2 <= n: shown in laws, SquareRoot.antt
unfoldable pub integer_squareroot : ℕ → ℕ
integer_squareroot n = root_within n n

-- Predicates

unfoldable pub is_active_validator : Validator → ℕ → Bool
is_active_validator validator epoch = leb validator.activation_epoch epoch && ltb epoch validator.exit_epoch

unfoldable pub is_eligible_for_activation_queue : Settings → Validator → Bool
is_eligible_for_activation_queue s validator =
    eqb validator.activation_eligibility_epoch FAR_FUTURE_EPOCH && eqb validator.effective_balance s.max_effective_balance

-- phase0, Predicates: is_eligible_for_activation(state, validator), of the state the finalized epoch alone
-- placed behind the finalized epoch, and not yet dequeued
unfoldable pub is_eligible_for_activation : ℕ → Validator → Bool
is_eligible_for_activation finalized_epoch validator =
    leb validator.activation_eligibility_epoch finalized_epoch && eqb validator.activation_epoch FAR_FUTURE_EPOCH

-- Misc

unfoldable pub compute_epoch_at_slot : Settings → ℕ → ℕ
compute_epoch_at_slot s slot = slot / s.slots_per_epoch

unfoldable pub compute_start_slot_at_epoch : Settings → ℕ → ℕ
compute_start_slot_at_epoch s epoch = epoch * s.slots_per_epoch

unfoldable pub compute_activation_exit_epoch : Settings → ℕ → ℕ
compute_activation_exit_epoch s epoch = epoch + 1 + s.max_seed_lookahead

-- Beacon state accessors

unfoldable pub get_current_epoch : Settings → ℕ → ℕ
get_current_epoch s state_slot = compute_epoch_at_slot s state_slot

unfoldable pub get_previous_epoch : Settings → ℕ → ℕ
get_previous_epoch s state_slot =
    cond (eqb (get_current_epoch s state_slot) GENESIS_EPOCH) GENESIS_EPOCH (get_current_epoch s state_slot - 1)

-- the assertion on the slot is the Rust's refusal 4
unfoldable pub get_block_root_at_slot : Settings → List ℕ → ℕ → List ℕ
get_block_root_at_slot s roots slot = take 32 (drop (32 * (slot % s.slots_per_historical_root)) roots)

unfoldable pub get_block_root : Settings → List ℕ → ℕ → List ℕ
get_block_root s roots epoch = get_block_root_at_slot s roots (compute_start_slot_at_epoch s epoch)

-- phase0, Beacon state accessors: the validators in the place of their indices
unfoldable pub get_active_validator_indices : List Validator → ℕ → List Validator
get_active_validator_indices vs epoch = filter (λ v. is_active_validator v epoch) vs

unfoldable pub get_validator_churn_limit : Settings → ℕ → List Validator → ℕ
get_validator_churn_limit s state_slot vs =
    let active = length (get_active_validator_indices vs (get_current_epoch s state_slot)) in
    max s.min_per_epoch_churn_limit (active / s.churn_limit_quotient)

-- phase0, Beacon state accessors: get_total_balance(state, indices), of the validators themselves
-- at least one increment, to avoid divisions by zero
unfoldable pub get_total_balance : Settings → List Validator → ℕ
get_total_balance s members = max s.effective_balance_increment (sum (map (λ v. v.effective_balance) members))

unfoldable pub get_total_active_balance : Settings → ℕ → List Validator → ℕ
get_total_active_balance s state_slot vs = get_total_balance s (get_active_validator_indices vs (get_current_epoch s state_slot))

-- Beacon state mutators

-- phase0, Beacon state mutators: state.balances[index] += delta, of one validator
unfoldable pub increase_balance : Validator → ℕ → Validator
increase_balance v delta = with_balance (v.balance + delta) v

-- with underflow protection
unfoldable pub decrease_balance : Validator → ℕ → Validator
decrease_balance v delta = with_balance (cond (ltb v.balance delta) 0 (v.balance - delta)) v

-- phase0, initiate_validator_exit: exit_epochs
-- the exit epochs of the validators that have one
abbrev pub exit_epochs : List Validator → List ℕ
exit_epochs vs = map (λ v. v.exit_epoch) (filter (λ v. not (eqb v.exit_epoch FAR_FUTURE_EPOCH)) vs)

-- phase0, initiate_validator_exit: exit_queue_churn
-- how many leave at an epoch
abbrev pub exit_queue_churn : ℕ → List Validator → ℕ
exit_queue_churn epoch vs = length (filter (λ v. eqb v.exit_epoch epoch) vs)

-- phase0, initiate_validator_exit: exit_queue_epoch, after `exit_queue_epoch += Epoch(1)` where the churn is used up
abbrev exit_queue_epoch : Settings → ℕ → List Validator → ℕ
exit_queue_epoch s state_slot vs =
    let latest = maximum (compute_activation_exit_epoch s (get_current_epoch s state_slot)) (exit_epochs vs) in
    cond (leb (get_validator_churn_limit s state_slot vs) (exit_queue_churn latest vs)) (latest + 1) latest

unfoldable pub initiate_validator_exit : Settings → ℕ → List Validator → ℕ → List Validator
initiate_validator_exit s state_slot vs index =
    let validator = get_or vs index nobody in
    let epoch = exit_queue_epoch s state_slot vs in
    cond (eqb validator.exit_epoch FAR_FUTURE_EPOCH)
    (set vs index (with_exit epoch (epoch + s.min_validator_withdrawability_delay) validator))
    vs

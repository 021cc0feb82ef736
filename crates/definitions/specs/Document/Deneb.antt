-- deneb/beacon-chain.md: the helper that it adds, the function that it changes of what an epoch's steps call, and process_epoch with them. All else is
-- Capella's, as the document says. `maximum` is MAX_PER_EPOCH_ACTIVATION_CHURN_LIMIT.
use mathlib.Core.List.{List, foldl}
use Rattle.std.specs.Prelude.{ℕ, min, length}
use Rattle.definitions.specs.declared.Settings.{Settings}
use Rattle.definitions.specs.declared.Bellatrix.{Bellatrix}
use Rattle.definitions.specs.Lists.{range}
use Rattle.definitions.specs.Record.{Validator, BeaconState}
use Rattle.definitions.specs.Updates.{with_validators}
use Rattle.definitions.specs.Document.Phase0.Helpers.{compute_activation_exit_epoch, get_current_epoch, get_validator_churn_limit}
use Rattle.definitions.specs.Document.Phase0.EpochProcessing.{update_registry_at, dequeued, process_effective_balance_updates, process_slashings_reset}
use Rattle.definitions.specs.Document.Altair.EpochProcessing.{process_justification_and_finalization, process_inactivity_updates, process_participation_flag_updates}
use Rattle.definitions.specs.Document.Bellatrix.{process_rewards_and_penalties, process_slashings}

-- Helpers, Beacon state accessors: new get_validator_activation_churn_limit

-- min(MAX_PER_EPOCH_ACTIVATION_CHURN_LIMIT, get_validator_churn_limit(state))
unfoldable pub get_validator_activation_churn_limit : Settings → ℕ → ℕ → List Validator → ℕ
get_validator_activation_churn_limit s maximum state_slot vs = min maximum (get_validator_churn_limit s state_slot vs)

-- Epoch processing, Registry updates: modified process_registry_updates

-- "Dequeued validators for activation up to activation churn limit"
unfoldable pub process_registry_updates : Settings → ℕ → BeaconState → BeaconState
process_registry_updates s maximum st =
    let state_slot = st.finality.slot in
    let queued = foldl (update_registry_at s state_slot) st.validators (range 0 (length st.validators)) in
    let epoch = compute_activation_exit_epoch s (get_current_epoch s state_slot) in
    let limit = get_validator_activation_churn_limit s maximum state_slot queued in
    with_validators (dequeued epoch limit st.finality.finalized_checkpoint.epoch queued) st

unfoldable pub process_epoch : Settings → Bellatrix → ℕ → BeaconState → BeaconState
process_epoch s b maximum st =
    let justified = process_justification_and_finalization s st in
    let scored = process_inactivity_updates s justified in
    let rewarded = process_rewards_and_penalties s b scored in
    let registered = process_registry_updates s maximum rewarded in
    let slashed = process_slashings s b registered in
    let balanced = process_effective_balance_updates s slashed in
    let reset = process_slashings_reset s balanced in
    process_participation_flag_updates reset

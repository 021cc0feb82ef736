-- ethereum-consensus/src/phase0/epoch_processing.rs
use Rattle.std.specs.Prelude.{Bool, cond, List, [], ℕ, ◌/◌, min, leb, ltb, length, get_or, set}
use Rattle.definitions.specs.declared.Settings.{Settings}
use Rattle.definitions.specs.declared.Finality.{Finality}
use Rattle.definitions.specs.declared.ActivationLimit.{ActivationLimit}
use Rattle.definitions.specs.declared.ActivationLimit.TheVariants.{Churn, AtMost}
use Rattle.definitions.specs.Lists.{range}
use Rattle.definitions.specs.Record.{Validator, nobody}
use Rattle.definitions.specs.Updates.{with_effective_balance}
use Rattle.definitions.specs.Checked.{Checked, value, bind, add64, sub64, mul64, map_checked, fold_checked}
use Rattle.definitions.specs.Rust.Phase0.Helpers.{compute_activation_exit_epoch, get_current_epoch, get_previous_epoch, get_block_root, get_validator_churn_limit, initiate_validator_exit}
use Rattle.definitions.specs.Document.Phase0.EpochProcessing.{weighed, queue_eligible, is_ejected, dequeued, rounded_balance}
-- 1139 of helpers.rs and 435: the document's
unfoldable pub use Rattle.definitions.specs.Document.Phase0.EpochProcessing.{is_eligible, reset_slashings}

-- 585, a test: target * 3 >= total * 2, the left side first
unfoldable pub is_justified : ℕ → ℕ → Checked Bool
is_justified target total = bind (mul64 target 3) (λ left. bind (mul64 total 2) (λ right. value (leb right left)))

-- a root that is looked up only where its test passed
unfoldable pub root_where : Bool → Settings → List ℕ → ℕ → ℕ → Checked (List ℕ)
root_where passed s roots state_slot epoch = cond passed (get_block_root s roots state_slot epoch) (value [])

-- 585: the previous epoch's test and root before the current one's
unfoldable pub weigh_justification_and_finalization : Settings → List ℕ → Finality → ℕ → ℕ → ℕ → Checked Finality
weigh_justification_and_finalization s roots old total_active_balance previous_epoch_target_balance current_epoch_target_balance =
    let previous_epoch = get_previous_epoch s old.slot in
    let current_epoch = get_current_epoch s old.slot in
    bind (is_justified previous_epoch_target_balance total_active_balance) (λ previous.
    bind (root_where previous s roots old.slot previous_epoch) (λ previous_root.
    bind (is_justified current_epoch_target_balance total_active_balance) (λ current.
    bind (root_where current s roots old.slot current_epoch) (λ current_root.
    value (weighed previous_epoch current_epoch previous current previous_root current_root old)))))

-- 712: evaluated wherever it is called, also where nobody is eligible
unfoldable pub get_finality_delay : Settings → ℕ → ℕ → Checked ℕ
get_finality_delay s state_slot finalized_epoch = sub64 (get_previous_epoch s state_slot) finalized_epoch

-- 737
unfoldable pub is_in_inactivity_leak : Settings → ℕ → ℕ → Checked Bool
is_in_inactivity_leak s state_slot finalized_epoch =
    bind (get_finality_delay s state_slot finalized_epoch) (λ delay. value (ltb s.min_epochs_to_inactivity_penalty delay))

-- 253, the loop's turn at an index
unfoldable pub update_registry_at : Settings → ℕ → List Validator → ℕ → Checked (List Validator)
update_registry_at s state_slot vs index =
    let current_epoch = get_current_epoch s state_slot in
    let queued = set vs index (queue_eligible s current_epoch (get_or vs index nobody)) in
    cond (is_ejected s current_epoch (get_or queued index nobody)) (initiate_validator_exit s state_slot queued index) (value queued)

-- where `churn` may exit; «get_validator_activation_churn_limit» from Deneb on
abbrev pub activation_limit : ActivationLimit → ℕ → ℕ
activation_limit Churn churn = churn
activation_limit (AtMost maximum) churn = min maximum churn

-- 253: the queue is read with the eligibility epochs just written
unfoldable pub limited_registry_updates : ActivationLimit → Settings → ℕ → ℕ → List Validator → Checked (List Validator)
limited_registry_updates limit s state_slot finalized_epoch vs =
    bind (fold_checked (update_registry_at s state_slot) vs (range 0 (length vs))) (λ queued.
    bind (compute_activation_exit_epoch s (get_current_epoch s state_slot)) (λ epoch.
    value (dequeued epoch (activation_limit limit (get_validator_churn_limit s state_slot queued)) finalized_epoch queued)))

abbrev pub process_registry_updates : Settings → ℕ → ℕ → List Validator → Checked (List Validator)
process_registry_updates s state_slot finalized_epoch vs = limited_registry_updates Churn s state_slot finalized_epoch vs

-- 395, a validator: the second sum is evaluated only where the first test failed
unfoldable pub update_effective_balance : Settings → ℕ → ℕ → Validator → Checked Validator
update_effective_balance s downward upward v =
    let updated = with_effective_balance (rounded_balance s v) v in
    bind (add64 v.balance downward) (λ low.
    cond (ltb low v.effective_balance) (value updated)
    (bind (add64 v.effective_balance upward) (λ high. value (cond (ltb high v.balance) updated v))))

-- 395: both thresholds before the loop, also over no validators
unfoldable pub process_effective_balance_updates : Settings → List Validator → Checked (List Validator)
process_effective_balance_updates s vs =
    let increment = s.effective_balance_increment / s.hysteresis_quotient in
    bind (mul64 increment s.hysteresis_downward_multiplier) (λ downward.
    bind (mul64 increment s.hysteresis_upward_multiplier) (λ upward.
    map_checked (update_effective_balance s downward upward) vs))

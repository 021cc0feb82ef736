-- ethereum-consensus/src/phase0/helpers.rs
use Rattle.std.specs.Prelude.{cond, List, map, ℕ, max, leb, ltb, eqb, get_or, set}
use Rattle.definitions.specs.declared.Settings.{Settings}
use Rattle.definitions.specs.Lists.{maximum}
use Rattle.definitions.specs.Record.{Validator, FAR_FUTURE_EPOCH, nobody}
use Rattle.definitions.specs.Updates.{with_balance, with_exit}
use Rattle.definitions.specs.Checked.{Checked, value, refused, bind, add64, mul64, sum64}
use Rattle.definitions.specs.declared.Refusal.TheVariants.{NoRoot}
use Rattle.definitions.specs.Document.Phase0.Helpers as document
use Rattle.definitions.specs.Document.Phase0.Helpers.{exit_epochs, exit_queue_churn}
-- 23, 27, 32, 485, 224, 531, 646, 678, 1005: the document's
unfoldable pub use Rattle.definitions.specs.Document.Phase0.Helpers.{is_active_validator, is_eligible_for_activation_queue, is_eligible_for_activation, compute_epoch_at_slot, get_current_epoch, get_previous_epoch, get_active_validator_indices, get_validator_churn_limit, decrease_balance}

-- 489
unfoldable pub compute_start_slot_at_epoch : Settings → ℕ → Checked ℕ
compute_start_slot_at_epoch s epoch = mul64 epoch s.slots_per_epoch

-- 493: epoch + 1, then + max_seed_lookahead
unfoldable pub compute_activation_exit_epoch : Settings → ℕ → Checked ℕ
compute_activation_exit_epoch s epoch = bind (add64 epoch 1) (λ next. add64 next s.max_seed_lookahead)

-- 588: the second test is evaluated only where the first failed. 4 also at state slot 0, where building the error panics.
unfoldable pub get_block_root_at_slot : Settings → List ℕ → ℕ → ℕ → Checked (List ℕ)
get_block_root_at_slot s roots state_slot slot =
    cond (leb state_slot slot) (refused NoRoot)
    (bind (add64 slot s.slots_per_historical_root) (λ last.
    cond (ltb last state_slot) (refused NoRoot) (value (document.get_block_root_at_slot s roots slot))))

-- 561
unfoldable pub get_block_root : Settings → List ℕ → ℕ → ℕ → Checked (List ℕ)
get_block_root s roots state_slot epoch = bind (compute_start_slot_at_epoch s epoch) (get_block_root_at_slot s roots state_slot)

-- 840: the plain sum, then at least one increment
unfoldable pub get_total_balance : Settings → List Validator → Checked ℕ
get_total_balance s members =
    bind (sum64 (map (λ v. v.effective_balance) members)) (λ total. value (max s.effective_balance_increment total))

-- 870
unfoldable pub get_total_active_balance : Settings → ℕ → List Validator → Checked ℕ
get_total_active_balance s state_slot vs = get_total_balance s (get_active_validator_indices vs (get_current_epoch s state_slot))

-- 979
unfoldable pub increase_balance : Validator → ℕ → Checked Validator
increase_balance v delta = bind (add64 v.balance delta) (λ balance. value (with_balance balance v))

-- 1035, the epoch: the latest that is taken, or the one after it where that one is full
unfoldable pub exit_queue_epoch : Settings → ℕ → List Validator → Checked ℕ
exit_queue_epoch s state_slot vs =
    bind (compute_activation_exit_epoch s (get_current_epoch s state_slot)) (λ least.
    let latest = maximum least (exit_epochs vs) in
    cond (leb (get_validator_churn_limit s state_slot vs) (exit_queue_churn latest vs)) (add64 latest 1) (value latest))

-- 1035: by rescanning the registry. With delay 0 the exit epoch may become FAR_FUTURE_EPOCH.
unfoldable pub initiate_validator_exit : Settings → ℕ → List Validator → ℕ → Checked (List Validator)
initiate_validator_exit s state_slot vs index =
    let validator = get_or vs index nobody in
    cond (eqb validator.exit_epoch FAR_FUTURE_EPOCH)
    (bind (exit_queue_epoch s state_slot vs) (λ exit.
    bind (add64 exit s.min_validator_withdrawability_delay) (λ withdrawable.
    value (set vs index (with_exit exit withdrawable validator)))))
    (value vs)

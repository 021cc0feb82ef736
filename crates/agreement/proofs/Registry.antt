-- Agreement of the registry updates.
use mathlib.Core.List.{List}
use Prim.Native.Nat.{ℕ}
use lib.Dec.{leb, eqb}
use lib.ListN.{get_or, set}
use Rattle.definitions.specs.declared.Settings.{Settings}
use Rattle.definitions.specs.declared.ActivationLimit.{ActivationLimit}
use Rattle.definitions.specs.declared.ActivationLimit.TheVariants.{Churn, AtMost}
use Rattle.definitions.specs.Lists.{maximum}
use Rattle.definitions.specs.Record.{Validator, BeaconState, FAR_FUTURE_EPOCH, nobody}
use Rattle.definitions.specs.Document.Phase0.Helpers as document_helpers
use Rattle.definitions.specs.Document.Phase0.Helpers.{get_current_epoch, get_validator_churn_limit, compute_activation_exit_epoch, exit_epochs, exit_queue_churn}
use Rattle.definitions.specs.Document.Phase0.EpochProcessing as document
use Rattle.definitions.specs.Document.Phase0.EpochProcessing.{queue_eligible, is_ejected}
use Rattle.definitions.specs.Rust.Phase0.Helpers as rust_helpers
use Rattle.definitions.specs.Rust.Phase0.EpochProcessing as rust
use Rattle.definitions.specs.Close.{limited_step, registry_step}
use Rattle.definitions.specs.Document.Deneb as deneb
use Rattle.agreement.specs.Agreement.{limited_registry}
use Rattle.agreement.proofs.Agrees.{Agrees, IsOverflow, value-agrees, bind-agrees, cond-agrees, add64-agrees, fold_agrees}
use Rattle.agreement.proofs.Helpers.{activation-exit-epoch}

initiate_exit : (s : Settings) (state_slot : ℕ) (vs : List Validator) (index : ℕ) → Agrees IsOverflow (rust_helpers.initiate_validator_exit s state_slot vs index) (document_helpers.initiate_validator_exit s state_slot vs index)
unfolding rust_helpers.initiate_validator_exit document_helpers.initiate_validator_exit rust_helpers.exit_queue_epoch
initiate_exit s state_slot vs index =
    let latest = maximum (compute_activation_exit_epoch s (get_current_epoch s state_slot)) (exit_epochs vs) in
    let full = leb (get_validator_churn_limit s state_slot vs) (exit_queue_churn latest vs) in
    cond-agrees (eqb (get_or vs index nobody).exit_epoch FAR_FUTURE_EPOCH)
    (bind-agrees _
    (bind-agrees _ (activation-exit-epoch s _) (cond-agrees full (add64-agrees _ _) value-agrees))
    (bind-agrees _ (add64-agrees _ _) value-agrees))
    value-agrees

pub registry-at : (s : Settings) (state_slot : ℕ) (vs : List Validator) (index : ℕ) → Agrees IsOverflow (rust.update_registry_at s state_slot vs index) (document.update_registry_at s state_slot vs index)
unfolding rust.update_registry_at document.update_registry_at
registry-at s state_slot vs index =
    let current_epoch = get_current_epoch s state_slot in
    let queued = set vs index (queue_eligible s current_epoch (get_or vs index nobody)) in
    cond-agrees (is_ejected s current_epoch (get_or queued index nobody)) (initiate_exit s state_slot queued index) value-agrees

-- under either limit: phase0's, or Deneb's
pub registry : (l : ActivationLimit) (s : Settings) (st : BeaconState) → Agrees IsOverflow (limited_step l s st registry_step) (limited_registry l s st)
unfolding limited_step rust.limited_registry_updates document.process_registry_updates deneb.process_registry_updates deneb.get_validator_activation_churn_limit
registry l s st = by l
  where
    by : (l : ActivationLimit) → Agrees IsOverflow (limited_step l s st registry_step) (limited_registry l s st)
    by Churn = bind-agrees _ (bind-agrees _ (fold_agrees (registry-at s _) _ _) (bind-agrees _ (activation-exit-epoch s _) value-agrees)) value-agrees
    by (AtMost maximum) = bind-agrees _ (bind-agrees _ (fold_agrees (registry-at s _) _ _) (bind-agrees _ (activation-exit-epoch s _) value-agrees)) value-agrees

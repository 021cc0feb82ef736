-- 02, R-6: "Activation shall go through the register from validator 0 up and decide each by counting those ahead of it before the first
-- activation. Who is activated is the same": as the sorted queue's `dequeued`, in laws, ActivationQueue/Dequeued.antt.
use Rattle.std.specs.Prelude.{cond, ◌&&◌, List, [], ◌∷◌, ℕ, zero, suc, ◌/◌, leb, ltb, length, get_or}
use Rattle.definitions.specs.declared.Settings.{Settings}
use Rattle.definitions.specs.declared.ActivationLimit.{ActivationLimit}
use Rattle.definitions.specs.declared.ActivationLimit.TheVariants.{Churn}
use Rattle.definitions.specs.Lists.{filter, range}
use Rattle.definitions.specs.Record.{Validator, nobody}
use Rattle.definitions.specs.Updates.{with_activation}
use Rattle.definitions.specs.Checked.{Checked, value, bind, fold_checked}
use Rattle.definitions.specs.Refusals.{in_order, is_small, settings_shaped, registry_shaped, same_length, good_settings, good_registry}
use Rattle.definitions.specs.Document.Phase0.Helpers.{is_eligible_for_activation}
use Rattle.definitions.specs.Document.Phase0.EpochProcessing.{queues_before}
use Rattle.definitions.specs.Rust.Phase0.Helpers.{compute_activation_exit_epoch, get_current_epoch, get_validator_churn_limit}
use Rattle.definitions.specs.Rust.Phase0.EpochProcessing.{update_registry_at, activation_limit}

-- how many of those eligible for activation queue before the validator at i
unfoldable pub ahead : ℕ → List Validator → ℕ → ℕ
ahead finalized_epoch vs i =
    length (filter (λ j. is_eligible_for_activation finalized_epoch (get_or vs j nobody) && queues_before vs j i) (range 0 (length vs)))

-- f i of the validator at each i below `stop`
unfoldable pub map_below : ℕ → (ℕ → Validator → Validator) → List Validator → List Validator
map_below zero f vs = vs
map_below (suc stop) f [] = []
map_below (suc stop) f (v ∷ vs) = f 0 v ∷ map_below stop (λ i. f (suc i)) vs

-- the validator v at i
unfoldable pub activated_at : ℕ → ℕ → ℕ → List Validator → ℕ → Validator → Validator
activated_at epoch limit finalized_epoch vs i v =
    cond (is_eligible_for_activation finalized_epoch v && ltb (ahead finalized_epoch vs i) limit) (with_activation epoch v) v

-- below `stop`, all that are eligible with fewer than `limit` ahead
unfoldable pub activated : ℕ → ℕ → ℕ → ℕ → List Validator → List Validator
activated epoch limit finalized_epoch stop vs = map_below stop (activated_at epoch limit finalized_epoch vs) vs

-- "The registry step with a stop": "from that validator number up activation epochs stay, all else is as without a stop"
unfoldable pub limited_updates_to : ActivationLimit → ℕ → Settings → ℕ → ℕ → List Validator → Checked (List Validator)
limited_updates_to limit stop s state_slot finalized_epoch vs =
    bind (fold_checked (update_registry_at s state_slot) vs (range 0 (length vs))) (λ queued.
    bind (compute_activation_exit_epoch s (get_current_epoch s state_slot)) (λ epoch.
    value (activated epoch (activation_limit limit (get_validator_churn_limit s state_slot queued)) finalized_epoch stop queued)))

abbrev pub registry_updates_to : ℕ → Settings → ℕ → ℕ → List Validator → Checked (List Validator)
registry_updates_to stop s state_slot finalized_epoch vs = limited_updates_to Churn stop s state_slot finalized_epoch vs

-- the registry step's tests, and "above N it is refusal 1"
unfoldable pub registry_to_tests : ℕ → Settings → ℕ → ℕ → List ℕ → List ℕ → Checked (Unit {0})
registry_to_tests stop s state_slot finalized_epoch opening closing =
    let shaped = settings_shaped s ∷ registry_shaped opening ∷ same_length opening closing ∷ leb stop (length opening / 10) ∷ [] in
    in_order shaped (good_settings s ∷ []) (is_small state_slot ∷ is_small finalized_epoch ∷ good_registry opening ∷ [])

-- The step by the numbers that were found.
use mathlib.Core.Path.{◌≡◌, refl, sym, ap, ◌∙◌}
use mathlib.Core.List.{List}
use Prim.Native.Nat.{ℕ, ◌/◌, max}
use native.Mathlib.Omega.{arith}
use lib.ListN.{length}
use Rattle.definitions.specs.declared.Settings.{Settings}
use Rattle.definitions.specs.declared.ActivationLimit.{ActivationLimit}
use Rattle.definitions.specs.Lists.{range}
use Rattle.definitions.specs.Record.{Validator, decode}
use Rattle.definitions.specs.Checked.{Checked, value, refused, bind, fold_checked}
use Rattle.definitions.specs.Rust.Phase0.Helpers.{get_current_epoch, get_active_validator_indices, get_validator_churn_limit}
use Rattle.definitions.specs.RegisterOrder.{activated, limited_updates_to}
use Rattle.definitions.specs.Rust.Phase0.EpochProcessing.{activation_limit}
use Rattle.registry.specs.Updates.{least_exit, update_at, updates_by}
use Rattle.registry.proofs.Epochs.{Epochs}
use Rattle.registry.proofs.Churn.{updates_by-numbers, limit-kept}

-- the churn limit from the count of the active
pub counted-limit : (s : Settings) (state_slot : ℕ) (vs : List Validator) {epoch active limit : ℕ} → epoch ≡ get_current_epoch s state_slot → active ≡ length (get_active_validator_indices vs epoch) → limit ≡ max s.min_per_epoch_churn_limit (active / s.churn_limit_quotient) → limit ≡ get_validator_churn_limit s state_slot vs
unfolding get_validator_churn_limit
counted-limit s state_slot vs now count is = is ∙ rw (count, now)

module _ (by : ActivationLimit) (stop : ℕ) (s : Settings) (state_slot finalized_epoch : ℕ) (xs : List ℕ) {epoch limit most : ℕ} (p : Epochs s state_slot) (now : epoch ≡ get_current_epoch s state_slot) (churn : limit ≡ get_validator_churn_limit s state_slot (decode xs)) (cut : most ≡ activation_limit by limit) where
  abbrev loop : ℕ → Checked (List Validator)
  loop epoch = fold_checked (update_at s epoch (least_exit s epoch) limit) (decode xs) (range 0 (length (decode xs)))

  as_written : limited_updates_to by stop s state_slot finalized_epoch (decode xs) ≡ bind (loop epoch) (λ queued. value (activated (least_exit s epoch) (activation_limit by (get_validator_churn_limit s state_slot queued)) finalized_epoch stop queued))
  unfolding limited_updates_to bind
  as_written = rw (p.least, updates_by-numbers s state_slot p.least p.small (omega arith) (decode xs) (sym churn) (range 0 (length (decode xs))), now)

  -- the step is the one by its numbers
  pub step_by_lem : limited_updates_to by stop s state_slot finalized_epoch (decode xs) ≡ updates_by stop s epoch limit most finalized_epoch (decode xs)
  unfolding updates_by activated bind
  step_by_lem = as_written ∙ rw now (go (loop (get_current_epoch s state_slot)) refl)
    where
      go : (m : Checked (List Validator)) → loop (get_current_epoch s state_slot) ≡ m → bind m (λ queued. value (activated (least_exit s (get_current_epoch s state_slot)) (activation_limit by (get_validator_churn_limit s state_slot queued)) finalized_epoch stop queued)) ≡ bind m (λ queued. value (activated (least_exit s (get_current_epoch s state_slot)) most finalized_epoch stop queued))
      go (value queued) e = ap (λ (k : ℕ). value (activated (least_exit s (get_current_epoch s state_slot)) k finalized_epoch stop queued)) (ap (λ (n : ℕ). activation_limit by n) (limit-kept s state_slot p.least p.small (omega arith) limit (decode xs) (range 0 (length (decode xs))) e ∙ sym churn) ∙ sym cut)
      go (refused q) e = refl

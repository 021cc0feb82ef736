-- The registry step writes a validator's four epochs: eligibility, exit and withdrawable in its turns, activation for those dequeued.
use mathlib.Core.Path.{◌≡◌, refl, sym, ap, ◌∙◌}
use mathlib.Core.Bool.{Bool, true, false, cond}
use mathlib.Core.List.{List, [], ◌∷◌, map, foldl}
use Prim.Native.Nat.{ℕ, ◌+◌}
use lib.Dec.{eqb}
use lib.ListN.{length, get_or, set, take}
use lib.Seq.{map-set_same}
use Rattle.definitions.specs.declared.Settings.{Settings}
use Rattle.definitions.specs.declared.ActivationLimit.{ActivationLimit}
use Rattle.definitions.specs.Lists.{range}
use Rattle.definitions.specs.Record.{Validator, nobody, FAR_FUTURE_EPOCH}
use Rattle.definitions.specs.Updates.{with_eligibility, with_activation, with_exit}
use Rattle.definitions.specs.Checked.{Checked, value, fold_checked}
use Rattle.definitions.specs.Document.Phase0.Helpers.{is_eligible_for_activation_queue}
use Rattle.definitions.specs.Document.Phase0.EpochProcessing.{queue_eligible, is_ejected, activation_queue, activate_at, dequeued}
use Rattle.definitions.specs.Rust.Phase0.Helpers.{get_current_epoch, get_validator_churn_limit, initiate_validator_exit}
use Rattle.definitions.specs.Rust.Phase0.EpochProcessing.{update_registry_at, activation_limit, limited_registry_updates}
use Rattle.laws.proofs.Checked.{value_same, bound}
use Rattle.laws.specs.Frames.{without_epochs}
use Rattle.laws.proofs.Tests.{either}

-- what is given outright
pub same-value : {B : Type 0} (h : Validator → B) {vs ws : List Validator} → ◌≡◌ {A = Checked (List Validator)} (value vs) (value ws) → map h ws ≡ map h vs
same-value h p = ap (map h) (sym (value_same p))

-- h reads neither exit nor withdrawable epoch
module _ {B : Type 0} (h : Validator → B) (blind : (exit withdrawable : ℕ) (v : Validator) → h (with_exit exit withdrawable v) ≡ h v) where
  pub exit-writes : (s : Settings) (state_slot : ℕ) (vs : List Validator) (i : ℕ) {ws : List Validator} → initiate_validator_exit s state_slot vs i ≡ value ws → map h ws ≡ map h vs
  unfolding initiate_validator_exit
  exit-writes s state_slot vs i =
      either (λ ws. map h ws ≡ map h vs) (eqb (get_or vs i nobody).exit_epoch FAR_FUTURE_EPOCH)
      (λ p.
      let a = bound _ _ p in
      let b = bound _ _ a.then in
      same-value h b.then ∙ map-set_same h vs i (with_exit a.first b.first (get_or vs i nobody)) nobody (blind a.first b.first (get_or vs i nobody)))
      (same-value h)

-- h does not read the eligibility epoch
module _ {B : Type 0} (h : Validator → B) (blind : (epoch : ℕ) (v : Validator) → h (with_eligibility epoch v) ≡ h v) where
  pub eligible-writes : (s : Settings) (epoch : ℕ) (vs : List Validator) (i : ℕ) → map h (set vs i (queue_eligible s epoch (get_or vs i nobody))) ≡ map h vs
  unfolding queue_eligible
  eligible-writes s epoch vs i = map-set_same h vs i _ nobody (go (is_eligible_for_activation_queue s v))
    where
      v : Validator
      v = get_or vs i nobody

      go : (b : Bool) → h (cond b (with_eligibility (epoch + 1) v) v) ≡ h v
      go true = blind (epoch + 1) v
      go false = refl

-- h does not read the activation epoch
module _ {B : Type 0} (h : Validator → B) (blind : (epoch : ℕ) (v : Validator) → h (with_activation epoch v) ≡ h v) where
  activated : (to : ℕ) (is : List ℕ) (vs : List Validator) → map h (foldl (activate_at to) vs is) ≡ map h vs
  activated to [] vs = refl
  activated to (i ∷ is) vs = activated to is (activate_at to vs i) ∙ map-set_same h vs i (with_activation to (get_or vs i nobody)) nobody (blind to (get_or vs i nobody))

  pub dequeued-writes : (to limit finalized_epoch : ℕ) (vs : List Validator) → map h (dequeued to limit finalized_epoch vs) ≡ map h vs
  unfolding dequeued
  dequeued-writes to limit finalized_epoch vs = activated to (take limit (activation_queue finalized_epoch vs)) vs

-- all but the four epochs
abbrev rest : Validator → Validator
rest v = without_epochs v

turn-writes : (s : Settings) (state_slot : ℕ) (vs : List Validator) (i : ℕ) {ws : List Validator} → update_registry_at s state_slot vs i ≡ value ws → map rest ws ≡ map rest vs
unfolding update_registry_at
turn-writes s state_slot vs i {ws} p =
    either (λ ws. map rest ws ≡ map rest queued) (is_ejected s (get_current_epoch s state_slot) (get_or queued i nobody)) (exit-writes rest (λ e w v. refl) s state_slot queued i) (same-value rest) p
    ∙ eligible-writes rest (λ e v. refl) s (get_current_epoch s state_slot) vs i
  where
    queued : List Validator
    queued = set vs i (queue_eligible s (get_current_epoch s state_slot) (get_or vs i nobody))

turns_write : (s : Settings) (state_slot : ℕ) (is : List ℕ) (vs : List Validator) {ws : List Validator} → fold_checked (update_registry_at s state_slot) vs is ≡ value ws → map rest ws ≡ map rest vs
unfolding fold_checked
turns_write s state_slot [] vs p = same-value rest p
turns_write s state_slot (i ∷ is) vs p = let a = bound _ _ p in turns_write s state_slot is a.first a.then ∙ turn-writes s state_slot vs i a.gave

pub registry-writes : (limit : ActivationLimit) (s : Settings) (state_slot finalized_epoch : ℕ) (vs : List Validator) {ws : List Validator} → limited_registry_updates limit s state_slot finalized_epoch vs ≡ value ws → map rest ws ≡ map rest vs
unfolding limited_registry_updates
registry-writes limit s state_slot finalized_epoch vs p =
    let a = bound _ _ p in
    let b = bound _ _ a.then in
    same-value rest b.then
    ∙ dequeued-writes rest (λ e v. refl) b.first (activation_limit limit (get_validator_churn_limit s state_slot a.first)) finalized_epoch a.first
    ∙ turns_write s state_slot (range 0 (length vs)) vs a.gave

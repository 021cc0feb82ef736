-- The total active balance does not change during the step either: activation is for a later epoch.
use mathlib.Core.Path.{◌≡◌, refl, sym, ap, ◌∙◌}
use mathlib.Core.Bool.{Bool, true, false, cond, ◌&&◌}
use mathlib.Core.List.{List, [], ◌∷◌, map}
use Prim.Native.Nat.{ℕ, zero, suc, ◌<◌}
use native.Mathlib.Omega.{arith}
use borrow.Author.Tests.{lt-leb, eqb-true}
use lib.Dec.{leb, ltb, eqb}
use lib.ListN.{length}
use Rattle.definitions.specs.declared.Settings.{Settings}
use Rattle.definitions.specs.declared.ActivationLimit.{ActivationLimit}
use Rattle.definitions.specs.Lists.{filter, range}
use Rattle.definitions.specs.Record.{Validator, FAR_FUTURE_EPOCH}
use Rattle.definitions.specs.Updates.{with_activation}
use Rattle.definitions.specs.Checked.{value, bind, sum64, fold_checked}
use Rattle.definitions.specs.Document.Phase0.Helpers.{is_active_validator, is_eligible_for_activation, get_active_validator_indices}
use Rattle.definitions.specs.Document.Phase0.EpochProcessing.{dequeued}
use Rattle.definitions.specs.Rust.Phase0.Helpers.{get_current_epoch, get_total_balance, get_total_active_balance, get_validator_churn_limit}
use Rattle.definitions.specs.Rust.Phase0.EpochProcessing.{update_registry_at, activation_limit, limited_registry_updates}
use Rattle.laws.proofs.Checked.{bound, value_same}
use Rattle.laws.proofs.Tests.{both}
use Rattle.laws.specs.Queue.{ahead, map_below, activated_at, activated}
use Rattle.laws.proofs.ActivationQueue.Dequeued.{dequeued-is}
use Rattle.registry.specs.Updates.{least_exit, update_at}
use Rattle.registry.proofs.Epochs.{Epochs}
use Rattle.registry.proofs.Churn.{active_of, updates_by-numbers, active-kept}

below-kept : {B : Type 0} (p : Validator → Bool) (f : Validator → B) (stop : ℕ) (g : ℕ → Validator → Validator) (vs : List Validator) → ((i : ℕ) (v : Validator) → p (g i v) ≡ p v) → ((i : ℕ) (v : Validator) → f (g i v) ≡ f v) → map f (filter p (map_below stop g vs)) ≡ map f (filter p vs)
unfolding filter map_below
below-kept p f zero g vs h k = refl
below-kept p f (suc stop) g [] h k = refl
below-kept {B} p f (suc stop) g (v ∷ vs) h k =
    rw (h 0 v) (go (p v) (below-kept p f stop (λ i. g (suc i)) vs (λ i. h (suc i)) (λ i. k (suc i))))
  where
    rest : List Validator
    rest = map_below stop (λ i. g (suc i)) vs

    go : (t : Bool) → map f (filter p rest) ≡ map f (filter p vs) → map f (cond t (g 0 v ∷ filter p rest) (filter p rest)) ≡ map f (cond t (v ∷ filter p vs) (filter p vs))
    go true e = ap (λ (x : B). x ∷ map f (filter p rest)) (k 0 v) ∙ ap (λ (xs : List B). f v ∷ xs) e
    go false e = e

module _ (epoch least limit finalized_epoch : ℕ) (vs : List Validator) where
  activated-active : epoch < least → epoch < FAR_FUTURE_EPOCH → (i : ℕ) (v : Validator) → is_active_validator (activated_at least limit finalized_epoch vs i v) epoch ≡ is_active_validator v epoch
  unfolding is_active_validator activated_at is_eligible_for_activation
  activated-active l far i v = go (leb v.activation_eligibility_epoch finalized_epoch && eqb v.activation_epoch FAR_FUTURE_EPOCH) (ltb (ahead finalized_epoch vs i) limit) refl
    where
      go : (t b : Bool) → leb v.activation_eligibility_epoch finalized_epoch && eqb v.activation_epoch FAR_FUTURE_EPOCH ≡ t → unfold is_active_validator in (is_active_validator (cond (t && b) (with_activation least v) v) epoch ≡ is_active_validator v epoch)
      go true true e =
          let q = eqb-true v.activation_epoch FAR_FUTURE_EPOCH (both (leb v.activation_eligibility_epoch finalized_epoch) (eqb v.activation_epoch FAR_FUTURE_EPOCH) e).1 in
          rw (lt-leb least epoch l, q, lt-leb FAR_FUTURE_EPOCH epoch far)
      go true false e = refl
      go false b e = refl

  activated-balance : (i : ℕ) (v : Validator) → (activated_at least limit finalized_epoch vs i v).effective_balance ≡ v.effective_balance
  unfolding activated_at
  activated-balance i v = go (is_eligible_for_activation finalized_epoch v && ltb (ahead finalized_epoch vs i) limit)
    where
      go : (t : Bool) → (cond t (with_activation least v) v).effective_balance ≡ v.effective_balance
      go true = refl
      go false = refl

module _ (s : Settings) (state_slot finalized_epoch : ℕ) (p : Epochs s state_slot) where
  abbrev epoch_now : ℕ
  epoch_now = get_current_epoch s state_slot

  active-dequeued : (limit : ℕ) (vs : List Validator) → active_of s state_slot (dequeued (least_exit s epoch_now) limit finalized_epoch vs) ≡ active_of s state_slot vs
  unfolding activated
  active-dequeued limit vs =
      let l : epoch_now < least_exit s epoch_now = omega arith in
      let far : epoch_now < FAR_FUTURE_EPOCH = omega (arith, p.small) in
      ap (active_of s state_slot) (dequeued-is (least_exit s epoch_now) limit finalized_epoch vs)
      ∙ below-kept _ _ (length vs) _ vs (activated-active epoch_now (least_exit s epoch_now) limit finalized_epoch vs l far) (activated-balance epoch_now (least_exit s epoch_now) limit finalized_epoch vs)

  pub total_kept : (by : ActivationLimit) (vs : List Validator) {ws : List Validator} → limited_registry_updates by s state_slot finalized_epoch vs ≡ value ws → get_total_active_balance s state_slot ws ≡ get_total_active_balance s state_slot vs
  unfolding limited_registry_updates get_total_active_balance get_total_balance get_active_validator_indices bind
  total_kept by vs {ws} q =
      let limit = get_validator_churn_limit s state_slot vs in
      let e : bind (fold_checked (update_registry_at s state_slot) vs (range 0 (length vs))) (λ queued. value (dequeued (least_exit s epoch_now) (activation_limit by (get_validator_churn_limit s state_slot queued)) finalized_epoch queued)) ≡ value ws = rw p.least at q in
      let a = bound (fold_checked (update_registry_at s state_slot) vs (range 0 (length vs))) (λ queued. value (dequeued (least_exit s epoch_now) (activation_limit by (get_validator_churn_limit s state_slot queued)) finalized_epoch queued)) e in
      let loop : fold_checked (update_at s epoch_now (least_exit s epoch_now) limit) vs (range 0 (length vs)) ≡ value a.first = sym (updates_by-numbers s state_slot p.least p.small (omega arith) vs refl (range 0 (length vs))) ∙ a.gave in
      let last : ws ≡ dequeued (least_exit s epoch_now) (activation_limit by (get_validator_churn_limit s state_slot a.first)) finalized_epoch a.first = sym (value_same a.then) in
      let kept = ap (active_of s state_slot) last ∙ active-dequeued _ a.first ∙ active-kept s state_slot p.least p.small (omega arith) limit vs (range 0 (length vs)) loop in
      ap (λ (xs : List ℕ). bind (sum64 xs) (λ total. value (Prim.Native.Nat.max s.effective_balance_increment total))) kept

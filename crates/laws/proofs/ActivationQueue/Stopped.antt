-- The registry step with a stop is the step without one, from the stop up with the opening's activation epochs: no turn writes one, and
-- activation writes nothing else.
use mathlib.Core.Path.{◌≡◌, refl, sym, ap, ap₂, ◌∙◌}
use mathlib.Core.Bool.{Bool, true, false, cond, ◌&&◌}
use mathlib.Core.List.{List, [], ◌∷◌, map}
use Prim.Native.Nat.{ℕ, zero, suc, ◌+◌}
use native.Mathlib.Omega.{arith}
use lib.Dec.{ltb, eqb}
use lib.ListN.{length, get_or, set, length-map}
use lib.Seq.{map-set_same}
use Rattle.definitions.specs.declared.Settings.{Settings}
use Rattle.definitions.specs.declared.ActivationLimit.{ActivationLimit}
use Rattle.definitions.specs.Lists.{range}
use Rattle.definitions.specs.Record.{Validator, nobody, FAR_FUTURE_EPOCH}
use Rattle.definitions.specs.Updates.{with_eligibility, with_activation, with_exit}
use Rattle.definitions.specs.Checked.{Checked, value, refused, bind, fold_checked}
use Rattle.definitions.specs.Document.Phase0.Helpers.{is_eligible_for_activation_queue, is_eligible_for_activation}
use Rattle.definitions.specs.Document.Phase0.EpochProcessing.{queue_eligible, is_ejected, dequeued}
use Rattle.definitions.specs.Rust.Phase0.Helpers.{compute_activation_exit_epoch, get_current_epoch, get_validator_churn_limit, initiate_validator_exit}
use Rattle.definitions.specs.Rust.Phase0.EpochProcessing.{update_registry_at, activation_limit, limited_registry_updates}
use Rattle.definitions.specs.RegisterOrder.{limited_updates_to}
use Rattle.laws.proofs.Checked.{value_same, bound}
use Rattle.laws.specs.Queue.{ahead, map_below, activated_at, activated}
use Rattle.laws.specs.Stopped.{kept_from, Stopped}
use Rattle.laws.proofs.ActivationQueue.Dequeued.{dequeued-is}
use Rattle.laws.proofs.Tests.{either}

-- The turns

abbrev activation : Validator → ℕ
activation v = v.activation_epoch

eligible-kept : (s : Settings) (epoch : ℕ) (v : Validator) → activation (queue_eligible s epoch v) ≡ activation v
unfolding queue_eligible
eligible-kept s epoch v = go (is_eligible_for_activation_queue s v)
  where
    go : (t : Bool) → activation (cond t (with_eligibility (epoch + 1) v) v) ≡ activation v
    go true = refl
    go false = refl

-- what a condition chooses between
module _ (s : Settings) (state_slot : ℕ) where
  -- ws has the activation epochs of vs
  abbrev Kept : List Validator → List Validator → Type 0
  Kept vs ws = map activation ws ≡ map activation vs

  given-kept : {vs ws : List Validator} → ◌≡◌ {A = Checked (List Validator)} (value vs) (value ws) → Kept vs ws
  given-kept p = ap (map activation) (sym (value_same p))

  exit-kept : (vs : List Validator) (i : ℕ) {ws : List Validator} → initiate_validator_exit s state_slot vs i ≡ value ws → Kept vs ws
  unfolding initiate_validator_exit
  exit-kept vs i =
      either (Kept vs) (eqb (get_or vs i nobody).exit_epoch FAR_FUTURE_EPOCH)
      (λ p.
      let a = bound _ _ p in
      let b = bound _ _ a.then in
      ap (map activation) (sym (value_same b.then)) ∙ map-set_same activation vs i (with_exit a.first b.first (get_or vs i nobody)) nobody refl)
      given-kept

  turn-kept : (vs : List Validator) (i : ℕ) {ws : List Validator} → update_registry_at s state_slot vs i ≡ value ws → Kept vs ws
  unfolding update_registry_at
  turn-kept vs i p =
      let epoch = get_current_epoch s state_slot in
      let eligible = queue_eligible s epoch (get_or vs i nobody) in
      let queued = set vs i eligible in
      either (Kept queued) (is_ejected s epoch (get_or queued i nobody)) (exit-kept queued i) given-kept p
      ∙ map-set_same activation vs i eligible nobody (eligible-kept s epoch (get_or vs i nobody))

  turns-kept : (vs : List Validator) (is : List ℕ) {ws : List Validator} → fold_checked (update_registry_at s state_slot) vs is ≡ value ws → Kept vs ws
  unfolding fold_checked
  turns-kept vs [] p = given-kept p
  turns-kept vs (i ∷ is) p = let a = bound _ _ p in turns-kept a.first is a.then ∙ turn-kept vs i a.gave

-- Activation

-- f writes the activation epoch alone
abbrev Alone : (ℕ → Validator → Validator) → Type 0
Alone f = (i : ℕ) (v : Validator) → with_activation (activation v) (f i v) ≡ v

activated-alone : (epoch limit finalized_epoch : ℕ) (vs : List Validator) → Alone (activated_at epoch limit finalized_epoch vs)
unfolding activated_at
activated-alone epoch limit finalized_epoch vs i v = go (is_eligible_for_activation finalized_epoch v && ltb (ahead finalized_epoch vs i) limit)
  where
    go : (t : Bool) → with_activation (activation v) (cond t (with_activation epoch v) v) ≡ v
    go true = refl
    go false = refl

below-kept : (stop : ℕ) (f : ℕ → Validator → Validator) → Alone f → (vs us : List Validator) → map activation us ≡ map activation vs → map_below stop f us ≡ kept_from stop vs (map_below (length us) f us)
unfolding map_below kept_from
below-kept zero f h [] [] e = refl
below-kept (suc stop) f h [] [] e = refl
below-kept stop f h [] (u ∷ us) e = absurd (omega (arith, ap length e))
below-kept stop f h (v ∷ vs) [] e = absurd (omega (arith, ap length e))
below-kept zero f h (v ∷ vs) (u ∷ us) e =
    let same : activation u ≡ activation v = cc in
    ap₂ ◌∷◌ (sym (h 0 u) ∙ ap (λ (x : ℕ). with_activation x (f 0 u)) same) (below-kept zero (λ i. f (suc i)) (λ i. h (suc i)) vs us cc)
below-kept (suc stop) f h (v ∷ vs) (u ∷ us) e = ap (λ (t : List Validator). f 0 u ∷ t) (below-kept stop (λ i. f (suc i)) (λ i. h (suc i)) vs us cc)

module _ (limit : ActivationLimit) (s : Settings) (state_slot finalized_epoch : ℕ) (vs : List Validator) where
  abbrev turns : Checked (List Validator)
  turns = fold_checked (update_registry_at s state_slot) vs (range 0 (length vs))

  abbrev limit_of : List Validator → ℕ
  limit_of queued = activation_limit limit (get_validator_churn_limit s state_slot queued)

  -- after the turns and the epoch: what g makes of the registry is what k makes of the step's
  same_after : (g : ℕ → List Validator → List Validator) (k : List Validator → List Validator) → ((epoch : ℕ) (queued : List Validator) → map activation queued ≡ map activation vs → g epoch queued ≡ k (dequeued epoch (limit_of queued) finalized_epoch queued)) → bind turns (λ queued. bind (compute_activation_exit_epoch s (get_current_epoch s state_slot)) (λ epoch. value (g epoch queued))) ≡ bind (limited_registry_updates limit s state_slot finalized_epoch vs) (λ ws. value (k ws))
  unfolding limited_registry_updates bind
  same_after g k h = go turns refl (compute_activation_exit_epoch s (get_current_epoch s state_slot))
    where
      go : (m : Checked (List Validator)) → turns ≡ m → (e : Checked ℕ) → bind m (λ queued. bind e (λ epoch. value (g epoch queued))) ≡ bind (bind m (λ queued. bind e (λ epoch. value (dequeued epoch (limit_of queued) finalized_epoch queued)))) (λ ws. value (k ws))
      go (value queued) p (value epoch) = ap value (h epoch queued (turns-kept s state_slot vs (range 0 (length vs)) p))
      go (value queued) p (refused r) = refl
      go (refused r) p e = refl

  bind-same : {A : Type 0} (m : Checked A) → bind m (λ a. value a) ≡ m
  unfolding bind
  bind-same (value a) = refl
  bind-same (refused r) = refl

  pub stopped : Stopped limit s state_slot finalized_epoch vs
  unfolding limited_updates_to activated
  stopped =
      record {
        whole = same_after (λ epoch queued. activated epoch (limit_of queued) finalized_epoch (length vs) queued) (λ ws. ws) whole ∙ bind-same (limited_registry_updates limit s state_slot finalized_epoch vs);
        stopped = λ stop. same_after (λ epoch queued. activated epoch (limit_of queued) finalized_epoch stop queued) (kept_from stop vs) (stops stop);
      }
    where
      whole : (epoch : ℕ) (queued : List Validator) → map activation queued ≡ map activation vs → activated epoch (limit_of queued) finalized_epoch (length vs) queued ≡ dequeued epoch (limit_of queued) finalized_epoch queued
      whole epoch queued e =
          let n : length vs ≡ length queued = sym (length-map vs activation) ∙ ap length (sym e) ∙ length-map queued activation in
          ap (λ (n : ℕ). activated epoch (limit_of queued) finalized_epoch n queued) n ∙ sym (dequeued-is epoch (limit_of queued) finalized_epoch queued)

      stops : (stop epoch : ℕ) (queued : List Validator) → map activation queued ≡ map activation vs → activated epoch (limit_of queued) finalized_epoch stop queued ≡ kept_from stop vs (dequeued epoch (limit_of queued) finalized_epoch queued)
      stops stop epoch queued e =
          below-kept stop (activated_at epoch (limit_of queued) finalized_epoch queued) (activated-alone epoch (limit_of queued) finalized_epoch queued) vs queued e
          ∙ ap (kept_from stop vs) (sym (dequeued-is epoch (limit_of queued) finalized_epoch queued))

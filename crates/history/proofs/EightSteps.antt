-- The eight steps of a close, one after the other: what they do to the checkpoints and to the two epochs of each validator.
use mathlib.Core.Path.{◌≡◌, refl, sym, ap, ◌∙◌, subst, subst₂}
use mathlib.Core.List.{List, map}
use Prim.Native.Nat.{ℕ, ◌+◌}
use Rattle.definitions.specs.declared.ActivationLimit.{ActivationLimit}
use Rattle.definitions.specs.declared.Settings.{Settings}
use Rattle.definitions.specs.declared.Finality.{Finality}
use Rattle.definitions.specs.Record.{Validator, BeaconState}
use Rattle.definitions.specs.Updates.{with_effective_balance, with_balance, with_score, with_participation}
use Rattle.definitions.specs.Checked.{value, fold_checked}
use Rattle.definitions.specs.Rust.Phase0.Helpers.{get_current_epoch, get_validator_churn_limit}
use Rattle.definitions.specs.Rust.Phase0.EpochProcessing.{activation_limit, limited_registry_updates}
use Rattle.definitions.specs.Close.{justification_step, inactivity_step, rewards_step, registry_step, slashings_step, effective_balances_step, slashings_reset_step, participation_flags_step, limited_step, limited_up_to, limited_epoch}
use Rattle.laws.proofs.Checked.{value_same, bound}
use Rattle.laws.specs.Frames.{each}
use Rattle.laws.proofs.Frame.Entries.{told}
use Rattle.laws.proofs.Frame.Frames.{frames}
use Rattle.history.proofs.Waiting.{finalized}
use Rattle.laws.proofs.Moved.{Moved}
use Rattle.history.proofs.Shape.{Registered}
use Rattle.history.proofs.Steps.{bare, Still, still_both, still_spared}
use Rattle.laws.proofs.Checkpoints.{CheckpointsMoved, justification-moves}
use Rattle.history.proofs.Registry.{Updated, registry-updates, registered}

-- a step that leaves finality, and of the registry what the claim reads
pub record Kept (a b : BeaconState) : Type 0 where
  pub finality : b.finality ≡ a.finality
  pub validators : Still a.validators b.validators

kept-both : {a b c : BeaconState} → Kept a b → Kept b c → Kept a c
kept-both p q = record { finality = q.finality ∙ p.finality; validators = still_both p.validators q.validators }

kept_but : (f : Validator → Validator) → ((v : Validator) → bare (f v) ≡ bare v) → (a b : BeaconState) → each f b ≡ each f a → Kept a b
kept_but f k a b h =
    record {
      finality = ap (λ (st : BeaconState). st.finality) h;
      validators = record { same = told f bare k a.validators b.validators (ap (λ (st : BeaconState). st.validators) h) };
    }

-- every step but justification and registry
module _ (limit : ActivationLimit) (s : Settings) (a b : BeaconState) where
  inactivity-keeps : limited_step limit s a inactivity_step ≡ value b → Kept a b
  unfolding limited_step
  inactivity-keeps p = kept_but (with_score 0) (λ v. refl) a b (frames s inactivity_step a b p)

  rewards_keep : limited_step limit s a rewards_step ≡ value b → Kept a b
  unfolding limited_step
  rewards_keep p = kept_but (with_balance 0) (λ v. refl) a b (frames s rewards_step a b p)

  slashings_keep : limited_step limit s a slashings_step ≡ value b → Kept a b
  unfolding limited_step
  slashings_keep p = kept_but (with_balance 0) (λ v. refl) a b (frames s slashings_step a b p)

  effective_keep : limited_step limit s a effective_balances_step ≡ value b → Kept a b
  unfolding limited_step
  effective_keep p = kept_but (with_effective_balance 0) (λ v. refl) a b (frames s effective_balances_step a b p)

  reset-keeps : limited_step limit s a slashings_reset_step ≡ value b → Kept a b
  unfolding limited_step
  reset-keeps p =
      let h = frames s slashings_reset_step a b p in
      record {
        finality = ap (λ (st : BeaconState). st.finality) h;
        validators = record { same = ap (λ (st : BeaconState). map bare st.validators) h };
      }

  rotation_keeps : limited_step limit s a participation_flags_step ≡ value b → Kept a b
  unfolding limited_step
  rotation_keeps p = kept_but (with_participation 0 0) (λ v. refl) a b (frames s participation_flags_step a b p)

  -- the other two
  pub record Justifies : Type 0 where
    pub finality : CheckpointsMoved (get_current_epoch s a.finality.slot) a.finality b.finality
    pub validators : b.validators ≡ a.validators

  pub record Registers : Type 0 where
    pub finality : b.finality ≡ a.finality
    pub gave : limited_registry_updates limit s a.finality.slot (finalized a).epoch a.validators ≡ value b.validators
    pub validators : Updated limit s a.finality.slot (finalized a).epoch a.validators b.validators

justification-step : (limit : ActivationLimit) (s : Settings) (a b : BeaconState) → limited_step limit s a justification_step ≡ value b → Justifies limit s a b
unfolding limited_step
justification-step limit s a b p = let h = bound _ _ p in subst (Justifies limit s a) (value_same h.then) (record { finality = justification-moves s _ _ _ h.gave; validators = refl })

registry-step : (limit : ActivationLimit) (s : Settings) (a b : BeaconState) → limited_step limit s a registry_step ≡ value b → Registers limit s a b
unfolding limited_step
registry-step limit s a b p = let h = bound _ _ p in subst (Registers limit s a) (value_same h.then) (record { finality = refl; gave = h.gave; validators = registry-updates limit s _ _ _ h.gave })

-- what the eight steps do to finality and registry
pub record Eight (limit : ActivationLimit) (s : Settings) (f : Finality) (vs : List Validator) (g : Finality) (ws : List Validator) : Type 0 where
  pub queue : List Validator
  pub checkpoints : Moved (get_current_epoch s f.slot) f g
  pub registry : Registered (get_current_epoch s f.slot) (get_current_epoch s f.slot + 1 + s.max_seed_lookahead) (activation_limit limit (get_validator_churn_limit s f.slot queue)) g.finalized_checkpoint.epoch vs queue ws

-- justification, two steps, registry, four steps
pub record Parts (limit : ActivationLimit) (s : Settings) (a e : BeaconState) : Type 0 where
  pub justified : BeaconState
  pub rewarded : BeaconState
  pub registered : BeaconState
  pub justifies : Justifies limit s a justified
  pub keeps : Kept justified rewarded
  pub registers : Registers limit s rewarded registered
  pub ends : Kept registered e

pub parts : (limit : ActivationLimit) (s : Settings) (a : BeaconState) {e : BeaconState} → limited_epoch limit s a ≡ value e → Parts limit s a e
unfolding limited_epoch limited_up_to fold_checked
parts limit s a p =
    let b1 = bound _ _ p in
    let b2 = bound _ _ b1.then in
    let b3 = bound _ _ b2.then in
    let b4 = bound _ _ b3.then in
    let b5 = bound _ _ b4.then in
    let b6 = bound _ _ b5.then in
    let b7 = bound _ _ b6.then in
    let b8 = bound _ _ b7.then in
    subst (Parts limit s a) (value_same b8.then)
    (record {
      justified = b1.first;
      rewarded = b3.first;
      registered = b4.first;
      justifies = justification-step limit s a b1.first b1.gave;
      keeps = kept-both (inactivity-keeps limit s b1.first b2.first b2.gave) (rewards_keep limit s b2.first b3.first b3.gave);
      registers = registry-step limit s b3.first b4.first b4.gave;
      ends = kept-both (slashings_keep limit s b4.first b5.first b5.gave)
          (kept-both (effective_keep limit s b5.first b6.first b6.gave)
          (kept-both (reset-keeps limit s b6.first b7.first b7.gave) (rotation_keeps limit s b7.first b8.first b8.gave)));
    })

module _ {limit : ActivationLimit} {s : Settings} {a e : BeaconState} (p : Parts limit s a e) where
  -- the slot and the finalized epoch that the registry step reads
  pub same-slot : p.rewarded.finality.slot ≡ a.finality.slot
  same-slot = ap (λ (f : Finality). f.slot) p.keeps.finality ∙ p.justifies.finality.slot

  same-final : (finalized p.rewarded).epoch ≡ (finalized e).epoch
  same-final = sym (ap (λ (f : Finality). f.finalized_checkpoint.epoch) (p.ends.finality ∙ p.registers.finality))

  -- the registry that it reads
  pub handed-still : Still a.validators p.rewarded.validators
  handed-still = subst (λ (vs : List Validator). Still vs p.rewarded.validators) p.justifies.validators p.keeps.validators

  joined : Eight limit s a.finality a.validators e.finality e.validators
  joined = record { queue = u.queue; checkpoints = subst (Moved (get_current_epoch s a.finality.slot) a.finality) (sym same) p.justifies.finality.moved; registry = registered (still_spared handed-still) u (still_spared p.ends.validators) }
    where
      same : e.finality ≡ p.justified.finality
      same = p.ends.finality ∙ p.registers.finality ∙ p.keeps.finality

      u : Updated limit s a.finality.slot (finalized e).epoch p.rewarded.validators p.registered.validators
      u = subst₂ (λ (x y : ℕ). Updated limit s x y p.rewarded.validators p.registered.validators) same-slot same-final p.registers.validators

pub eight : (limit : ActivationLimit) (s : Settings) (a : BeaconState) {e : BeaconState} → limited_epoch limit s a ≡ value e → Eight limit s a.finality a.validators e.finality e.validators
eight limit s a q = joined (parts limit s a q)

-- The first five are the text's, of any state.
use mathlib.Core.Path.{◌≡◌, refl, sym, ◌∙◌}
use mathlib.Core.List.{List, [], ◌∷◌}
use Prim.Native.Nat.{ℕ}
use Rattle.definitions.specs.declared.Settings.{Settings}
use Rattle.definitions.specs.declared.Finality.{Finality}
use Rattle.definitions.specs.Record.{Validator}
use Rattle.definitions.specs.Checked.{Checked, value, refused, bind, fold_checked}
use Rattle.definitions.specs.Rules.{in_place}
use Rattle.definitions.specs.Rust.Altair.EpochProcessing.{process_justification_and_finalization, process_inactivity_updates, process_rewards_and_penalties}
use Rattle.definitions.specs.Close.{justification_step, inactivity_step, rewards_step, limited_step}
use Rattle.definitions_electra.specs.declared.ElectraRules.{ElectraRules}
use Rattle.definitions_electra.specs.declared.ExitChurn.{ExitChurn}
use Rattle.definitions_electra.specs.Record.{ElectraState, with_altair, with_churn}
use Rattle.definitions_electra.specs.Evaluated.Electra.EpochProcessing.{kept, registry_updates, slashings, electra_step, close_up_to}
use Rattle.electra_registry.specs.Updates.{Exiting}
use Rattle.electra_slashings.specs.Slashed.{slashed_registry}
use Rattle.electra_slashings.proofs.Slashed.{step_by_lem}
use Rattle.electra_first.specs.Paid.{Paid, paid_by}
use Rattle.electra_first.specs.Taken.{exits_of, Taken, taken_by}
use Rattle.electra_first.specs.First.{Four, four_by, Five, five_by, after_five}
use Rattle.electra_first.proofs.RegistryIn.{registry_in}

-- one step that gives f of what was worked out, then the others
pub then : {A S K : Type 0} (go : S → K → Checked S) (s : S) (k : K) (ks : List K) (m : Checked A) (f : A → S) → go s k ≡ bind m (λ a. value (f a)) → fold_checked go s (k ∷ ks) ≡ bind m (λ a. fold_checked go (f a) ks)
unfolding fold_checked bind
then {A} go s k ks m f h = rw h (by m)
  where
    by : (m : Checked A) → bind (bind m (λ a. value (f a))) (λ c. fold_checked go c ks) ≡ bind m (λ a. fold_checked go (f a) ks)
    by (value a) = refl
    by (refused p) = refl

pub bind-same : {A B : Type 0} (m : Checked A) {k l : A → Checked B} → ((a : A) → k a ≡ l a) → bind m k ≡ bind m l
unfolding bind
bind-same (value a) h = h a
bind-same (refused p) h = refl

pub flat : {A B C : Type 0} (m : Checked A) (k : A → Checked B) (l : B → Checked C) → bind (bind m k) l ≡ bind m (λ a. bind (k a) l)
unfolding bind
flat (value a) k l = refl
flat (refused p) k l = refl

module _ (r : ElectraRules) (st : ElectraState) where
  abbrev s : Settings
  s = in_place r.bellatrix r.settings

  -- the state with another finality, validators and churn
  abbrev pub state_at : Finality → List Validator → ExitChurn → ElectraState
  state_at g vs churn = with_churn churn (with_altair (record { finality = g; validators = vs; slashings = st.altair.slashings; block_roots = st.altair.block_roots }) st)

  abbrev slot_of : Finality → ℕ
  slot_of g = g.slot

  abbrev fin_of : Finality → ℕ
  fin_of g = g.finalized_checkpoint.epoch

  on-altair : (g : Finality) (vs : List Validator) (churn : ExitChurn) (m : Checked (List Validator)) → bind (bind m (λ ws. value (record { finality = g; validators = ws; slashings = st.altair.slashings; block_roots = st.altair.block_roots }))) (λ altair. value (with_altair altair (state_at g vs churn))) ≡ bind m (λ ws. value (state_at g ws churn))
  unfolding bind
  on-altair g vs churn (value ws) = refl
  on-altair g vs churn (refused p) = refl

  pub justified : electra_step r st (kept justification_step) ≡ bind (process_justification_and_finalization (in_place r.bellatrix r.settings) st.altair.block_roots st.altair.finality st.altair.validators) (λ g. value (state_at g st.altair.validators st.churn))
  unfolding electra_step limited_step bind
  justified = by (process_justification_and_finalization (in_place r.bellatrix r.settings) st.altair.block_roots st.altair.finality st.altair.validators)
    where
      by : (m : Checked Finality) → bind (bind m (λ f. value (record { finality = f; validators = st.altair.validators; slashings = st.altair.slashings; block_roots = st.altair.block_roots }))) (λ altair. value (with_altair altair st)) ≡ bind m (λ g. value (state_at g st.altair.validators st.churn))
      by (value f) = refl
      by (refused p) = refl

  module _ (g : Finality) (vs : List Validator) (churn : ExitChurn) where
    pub scored : electra_step r (state_at g vs churn) (kept inactivity_step) ≡ bind (process_inactivity_updates (in_place r.bellatrix r.settings) g.slot g.finalized_checkpoint.epoch vs) (λ ws. value (state_at g ws churn))
    unfolding electra_step limited_step
    scored = on-altair g vs churn (process_inactivity_updates (in_place r.bellatrix r.settings) g.slot g.finalized_checkpoint.epoch vs)

    pub paid : electra_step r (state_at g vs churn) (kept rewards_step) ≡ bind (process_rewards_and_penalties (in_place r.bellatrix r.settings) r.bellatrix.inactivity_penalty_quotient_bellatrix g.slot g.finalized_checkpoint.epoch vs) (λ ws. value (state_at g ws churn))
    unfolding electra_step limited_step
    paid = on-altair g vs churn (process_rewards_and_penalties (in_place r.bellatrix r.settings) r.bellatrix.inactivity_penalty_quotient_bellatrix g.slot g.finalized_checkpoint.epoch vs)

    pub updated : electra_step r (state_at g vs churn) registry_updates ≡ bind (exits_of r g.slot g.finalized_checkpoint.epoch churn vs) (λ e. value (state_at g e.validators e.churn))
    unfolding electra_step
    updated = registry_in r (state_at g vs churn)

    pub lessened : electra_step r (state_at g vs churn) slashings ≡ bind (slashed_registry r.settings r.bellatrix.proportional_slashing_multiplier_bellatrix g.slot st.altair.slashings vs) (λ ws. value (state_at g ws churn))
    unfolding electra_step
    lessened = step_by_lem r (state_at g vs churn)

  abbrev first : Checked Finality
  first = process_justification_and_finalization (in_place r.bellatrix r.settings) st.altair.block_roots st.altair.finality st.altair.validators

  abbrev five : Checked Five
  five = five_by r (in_place r.bellatrix r.settings) st.altair.finality st.churn st.altair.validators st.altair.slashings st.altair.block_roots

  folded : (g : Finality) (e : Exiting) (m : Checked (List Validator)) → bind (bind m (λ ws. value (record { updated = e; lessened = ws }))) (λ (t : Taken). value (state_at g t.lessened t.updated.churn)) ≡ bind m (λ ws. value (state_at g ws e.churn))
  unfolding bind
  folded g e (value ws) = refl
  folded g e (refused p) = refl

  -- slashings, of what the registry step made
  fifth : (g : Finality) (vs : List Validator) (churn : ExitChurn) → fold_checked (electra_step r) (state_at g vs churn) (registry_updates ∷ slashings ∷ []) ≡ bind (taken_by r g.slot g.finalized_checkpoint.epoch st.altair.slashings churn vs) (λ t. value (state_at g t.lessened t.updated.churn))
  unfolding taken_by fold_checked
  fifth g vs churn =
      then (electra_step r) _ registry_updates (slashings ∷ []) _ _ (updated g vs churn)
      ∙ bind-same (exits_of r g.slot g.finalized_checkpoint.epoch churn vs) (λ e. then (electra_step r) _ slashings [] _ _ (lessened g e.validators e.churn) ∙ sym (folded g e (slashed_registry r.settings r.bellatrix.proportional_slashing_multiplier_bellatrix g.slot st.altair.slashings e.validators)))
      ∙ sym (flat (exits_of r g.slot g.finalized_checkpoint.epoch churn vs) _ _)

  abbrev last_two : Finality → ExitChurn → Paid → Checked ElectraState
  last_two g churn p = bind (taken_by r g.slot g.finalized_checkpoint.epoch st.altair.slashings churn p.paid) (λ t. value (state_at g t.lessened t.updated.churn))

  rewarded : (g : Finality) (churn : ExitChurn) (sc : List Validator) (m : Checked (List Validator)) → bind (bind m (λ p. value (record { scored = sc; paid = p }))) (last_two g churn) ≡ bind m (λ p. last_two g churn (record { scored = sc; paid = p }))
  unfolding bind
  rewarded g churn sc (value p) = refl
  rewarded g churn sc (refused q) = refl

  outer : (g : Finality) (churn : ExitChurn) (m : Checked Paid) → bind m (last_two g churn) ≡ bind (bind m (λ p. bind (taken_by r g.slot g.finalized_checkpoint.epoch st.altair.slashings churn p.paid) (λ t. value (record { paid = p; taken = t })))) (λ (f : Four). value (state_at g f.taken.lessened f.taken.updated.churn))
  unfolding bind
  outer g churn (refused q) = refl
  outer g churn (value p) = by (taken_by r g.slot g.finalized_checkpoint.epoch st.altair.slashings churn p.paid)
    where
      by : (m : Checked Taken) → bind m (λ t. value (state_at g t.lessened t.updated.churn)) ≡ bind (bind m (λ t. value (record { paid = p; taken = t }))) (λ (f : Four). value (state_at g f.taken.lessened f.taken.updated.churn))
      by (value t) = refl
      by (refused q) = refl

  made : (g : Finality) (m : Checked Four) → bind (bind m (λ four. value (record { finality = g; four = four }))) (λ v. value (after_five st v)) ≡ bind m (λ f. value (state_at g f.taken.lessened f.taken.updated.churn))
  unfolding bind
  made g (value f) = refl
  made g (refused q) = refl

  -- inactivity and rewards before them
  third : (g : Finality) (vs : List Validator) (churn : ExitChurn) → fold_checked (electra_step r) (state_at g vs churn) (kept inactivity_step ∷ kept rewards_step ∷ registry_updates ∷ slashings ∷ []) ≡ bind (four_by r (in_place r.bellatrix r.settings) g.slot g.finalized_checkpoint.epoch st.altair.slashings churn vs) (λ f. value (state_at g f.taken.lessened f.taken.updated.churn))
  unfolding four_by paid_by
  third g vs churn =
      then (electra_step r) _ (kept inactivity_step) (kept rewards_step ∷ registry_updates ∷ slashings ∷ []) _ _ (scored g vs churn)
      ∙ bind-same (process_inactivity_updates (in_place r.bellatrix r.settings) g.slot g.finalized_checkpoint.epoch vs) (λ sc.
      then (electra_step r) _ (kept rewards_step) (registry_updates ∷ slashings ∷ []) _ _ (paid g sc churn)
      ∙ bind-same (process_rewards_and_penalties (in_place r.bellatrix r.settings) r.bellatrix.inactivity_penalty_quotient_bellatrix g.slot g.finalized_checkpoint.epoch sc) (λ p. fifth g p churn)
      ∙ sym (rewarded g churn sc (process_rewards_and_penalties (in_place r.bellatrix r.settings) r.bellatrix.inactivity_penalty_quotient_bellatrix g.slot g.finalized_checkpoint.epoch sc)))
      ∙ sym (flat (process_inactivity_updates (in_place r.bellatrix r.settings) g.slot g.finalized_checkpoint.epoch vs) _ (last_two g churn))
      ∙ outer g churn (paid_by (in_place r.bellatrix r.settings) g.slot g.finalized_checkpoint.epoch vs)

  pub up_to-five : close_up_to 5 r st ≡ bind (five_by r (in_place r.bellatrix r.settings) st.altair.finality st.churn st.altair.validators st.altair.slashings st.altair.block_roots) (λ v. value (after_five st v))
  unfolding close_up_to five_by
  up_to-five =
      then (electra_step r) st (kept justification_step) (kept inactivity_step ∷ kept rewards_step ∷ registry_updates ∷ slashings ∷ []) _ _ justified
      ∙ bind-same (process_justification_and_finalization (in_place r.bellatrix r.settings) st.altair.block_roots st.altair.finality st.altair.validators) (λ g. third g st.altair.validators st.churn ∙ sym (made g (four_by r (in_place r.bellatrix r.settings) g.slot g.finalized_checkpoint.epoch st.altair.slashings st.churn st.altair.validators)))
      ∙ sym (flat (process_justification_and_finalization (in_place r.bellatrix r.settings) st.altair.block_roots st.altair.finality st.altair.validators) _ _)

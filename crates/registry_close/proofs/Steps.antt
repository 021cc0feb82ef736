-- The definition's eight steps as the code groups them: justification, six over the registry, the slashings' reset.
use mathlib.Core.Path.{◌≡◌, refl}
use mathlib.Core.List.{List, [], ◌∷◌}
use Rattle.definitions.specs.declared.Settings.{Settings}
use Rattle.definitions.specs.declared.ActivationLimit.{ActivationLimit}
use Rattle.definitions.specs.declared.Finality.{Finality}
use Rattle.definitions.specs.Record.{Validator, BeaconState}
use Rattle.definitions.specs.Updates.{with_validators, with_finality, with_slashings}
use Rattle.definitions.specs.Checked.{Checked, value, refused, bind, fold_checked}
use Rattle.definitions.specs.Rust.Phase0.EpochProcessing.{reset_slashings}
use Rattle.definitions.specs.Rust.Altair.EpochProcessing.{process_justification_and_finalization, process_participation_flag_updates}
use Rattle.definitions.specs.Close.{inactivity_step, rewards_step, registry_step, slashings_step, effective_balances_step, slashings_reset_step, participation_flags_step, limited_step, on_validators, finalized_epoch_of, limited_up_to, limited_epoch}
use Rattle.definitions.specs.declared.Refusal.{Refusal}
use Rattle.write_steps.specs.RegistrySteps.{registry_steps}

-- a step over the registry, and then another
module _ (st : BeaconState) (rest : BeaconState → Checked BeaconState) where
  onto : (k : List Validator → Checked (List Validator)) (last : List Validator → Checked BeaconState) (m : Checked (List Validator)) → ((vs : List Validator) → rest (with_validators vs st) ≡ bind (k vs) last) → bind (on_validators st m) rest ≡ bind (bind m k) last
  unfolding bind
  onto k last (value vs) h = h vs
  onto k last (refused r) h = refl

-- the slashings are reset
abbrev pub reset : Settings → BeaconState → BeaconState
reset s st = with_slashings (reset_slashings s st.finality.slot st.slashings) st

-- the last two, neither of which is refused
last-two : (by : ActivationLimit) (s : Settings) (st : BeaconState) → fold_checked (limited_step by s) st (slashings_reset_step ∷ participation_flags_step ∷ []) ≡ bind (value (process_participation_flag_updates st.validators)) (λ vs. value (with_validators vs (reset s st)))
unfolding fold_checked limited_step bind
last-two by s st = refl

registry-steps : (by : ActivationLimit) (s : Settings) (st : BeaconState) → fold_checked (limited_step by s) st (inactivity_step ∷ rewards_step ∷ registry_step ∷ slashings_step ∷ effective_balances_step ∷ slashings_reset_step ∷ participation_flags_step ∷ []) ≡ bind (registry_steps by s st.finality.slot (finalized_epoch_of st) st.slashings st.validators) (λ vs. value (with_validators vs (reset s st)))
unfolding fold_checked limited_step registry_steps
registry-steps by s st =
    onto st _ _ _ _ (λ a.
    onto (with_validators a st) _ _ _ _ (λ b.
    onto (with_validators b st) _ _ _ _ (λ c.
    onto (with_validators c st) _ _ _ _ (λ d.
    onto (with_validators d st) _ (λ vs. value (process_participation_flag_updates vs)) _ _ (λ e. last-two by s (with_validators e st))))))

module _ (by : ActivationLimit) (s : Settings) (st : BeaconState) where
  -- where justification is refused
  pub justification-refused : {p : Refusal} → process_justification_and_finalization s st.block_roots st.finality st.validators ≡ refused p → limited_epoch by s st ≡ refused p
  unfolding limited_epoch limited_up_to fold_checked limited_step bind
  justification-refused h = rw h

  -- where it gave f
  pub eight-steps : {f : Finality} → process_justification_and_finalization s st.block_roots st.finality st.validators ≡ value f → limited_epoch by s st ≡ bind (registry_steps by s f.slot f.finalized_checkpoint.epoch st.slashings st.validators) (λ vs. value (with_validators vs (reset s (with_finality f st))))
  unfolding limited_epoch limited_up_to fold_checked limited_step bind
  eight-steps {f} h = rw h (registry-steps by s (with_finality f st))

-- What an accepted close did: justification gave its finality, and the steps over the registry its registry.
use mathlib.Core.Path.{◌≡◌, refl, sym, subst, ◌∙◌}
use Rattle.definitions.specs.declared.Settings.{Settings}
use Rattle.definitions.specs.declared.ActivationLimit.{ActivationLimit}
use Rattle.definitions.specs.declared.Finality.{Finality}
use Rattle.definitions.specs.Record.{BeaconState}
use Rattle.definitions.specs.Checked.{Checked, value, refused}
use Rattle.definitions.specs.Rust.Altair.EpochProcessing.{process_justification_and_finalization}
use Rattle.definitions.specs.Close.{limited_epoch}
use Rattle.laws.proofs.Checked.{not_value, value_same, bound}
use Rattle.laws.proofs.Checkpoints.{justification-moves}
use Rattle.write_steps.specs.RegistrySteps.{registry_steps}
use Rattle.registry_close.proofs.Steps.{justification-refused, eight-steps}

pub record Accepted (by : ActivationLimit) (s : Settings) (st after : BeaconState) : Type 0 where
  pub justified : process_justification_and_finalization s st.block_roots st.finality st.validators ≡ value after.finality
  pub slot : after.finality.slot ≡ st.finality.slot
  pub steps : registry_steps by s after.finality.slot after.finality.finalized_checkpoint.epoch st.slashings st.validators ≡ value after.validators

pub accepted : (by : ActivationLimit) (s : Settings) (st : BeaconState) {after : BeaconState} → limited_epoch by s st ≡ value after → Accepted by s st after
accepted by s st {after} h = go (process_justification_and_finalization s st.block_roots st.finality st.validators) refl
  where
    go : (m : Checked Finality) → process_justification_and_finalization s st.block_roots st.finality st.validators ≡ m → Accepted by s st after
    go (value f) e =
        let b = bound (registry_steps by s f.slot f.finalized_checkpoint.epoch st.slashings st.validators) _ (sym (eight-steps by s st e) ∙ h) in
        subst (λ (a : BeaconState). Accepted by s st a) (value_same b.then) (record { justified = e; slot = (justification-moves s _ _ _ e).slot; steps = b.gave })
    go (refused p) e = absurd (not_value (sym (justification-refused by s st e) ∙ h))

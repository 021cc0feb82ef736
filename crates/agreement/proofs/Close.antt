-- Each step, and so the whole close: where it gives a value it is the document's, and which refusals it can answer.
use mathlib.Core.Path.{◌≡◌, refl, ◌∙◌}
use mathlib.Core.Logic.{◌⊎◌, inl, inr, ⊎_elim}
use Rattle.definitions.specs.declared.Settings.{Settings}
use Rattle.definitions.specs.declared.ActivationLimit.{ActivationLimit}
use Rattle.definitions.specs.declared.ActivationLimit.TheVariants.{Churn, AtMost}
use Rattle.definitions.specs.Record.{BeaconState}
use Rattle.definitions.specs.Checked.{refused, fold_checked}
use Rattle.definitions.specs.declared.Refusal.{Refusal}
use Rattle.definitions.specs.declared.Refusal.TheVariants.{NoRoot, Overflow}
use Rattle.definitions.specs.Rules.{settings_under, in_place}
use Rattle.definitions.specs.Document.Phase0.EpochProcessing.{process_slashings_reset}
use Rattle.definitions.specs.Document.Altair.EpochProcessing as document
use Rattle.definitions.specs.Rust.Altair.EpochProcessing as rust_epoch
use Rattle.definitions.specs.Close as rust
use Rattle.definitions.specs.Close.{Step, justification_step, inactivity_step, rewards_step, registry_step, slashings_step, effective_balances_step, slashings_reset_step, participation_flags_step}
use Rattle.agreement.specs.Agreement.{limited_document_step, limited_document, StepAgrees, CloseAgrees, DenebStepAgrees, DenebCloseAgrees}
use Rattle.agreement.proofs.Bellatrix.{in_place_lem, under}
use Rattle.agreement.proofs.Agrees.{Agrees, weaken, or_more, value-agrees, bind-agrees}
use Rattle.agreement.proofs.Justification.{justification}
use Rattle.agreement.proofs.Inactivity.{inactivity}
use Rattle.agreement.proofs.Rewards.{rewards}
use Rattle.agreement.proofs.Registry.{registry}
use Rattle.agreement.proofs.Slashings.{slashings}
use Rattle.agreement.proofs.EffectiveBalances.{effective-balances}

pub slashings-reset : {P : Refusal → Type 0} (l : ActivationLimit) (s : Settings) (st : BeaconState) → Agrees P (rust.limited_step l s st slashings_reset_step) (process_slashings_reset s st)
unfolding rust.limited_step process_slashings_reset
slashings-reset l s st = value-agrees

pub participation_flags : {P : Refusal → Type 0} (l : ActivationLimit) (s : Settings) (st : BeaconState) → Agrees P (rust.limited_step l s st participation_flags_step) (document.process_participation_flag_updates st)
unfolding rust.limited_step document.process_participation_flag_updates rust_epoch.process_participation_flag_updates
participation_flags l s st = value-agrees

-- 5, or 4 from justification
abbrev pub StepRefusal : Step → Refusal → Type 0
StepRefusal k r = (r ≡ Overflow) ⊎ ((r ≡ NoRoot) × (k ≡ justification_step))

pub each_step : (l : ActivationLimit) (s : Settings) (st : BeaconState) (k : Step) → Agrees (StepRefusal k) (rust.limited_step l s st k) (limited_document_step l s st k)
each_step l s st justification_step = weaken (λ r. ⊎_elim (λ e. inl e) (λ e. inr (e, refl))) (justification l s st)
each_step l s st inactivity_step = or_more (inactivity l s st)
each_step l s st rewards_step = or_more (rewards l s st)
each_step l s st registry_step = or_more (registry l s st)
each_step l s st slashings_step = or_more (slashings l s st)
each_step l s st effective_balances_step = or_more (effective-balances l s st)
each_step l s st slashings_reset_step = slashings-reset l s st
each_step l s st participation_flags_step = participation_flags l s st

pub step-agrees : StepAgrees
step-agrees r st st' k p = (under r).steps st k ∙ (each_step Churn (settings_under r) st k).same st' p

-- 5, or justification's 4
abbrev pub CloseRefusal : Settings → BeaconState → Refusal → Type 0
CloseRefusal s st r = (r ≡ Overflow) ⊎ ((r ≡ NoRoot) × (rust.step s st justification_step ≡ refused NoRoot))

first_step : (l : ActivationLimit) (s : Settings) (st : BeaconState) → Agrees (CloseRefusal s st) (rust.limited_step l s st justification_step) (document.process_justification_and_finalization s st)
unfolding rust.limited_step
first_step l s st =
    record {
      same = (justification l s st).same;
      only = λ r p. ⊎_elim (λ e. inl e) (λ e. inr (e, rw e at p)) ((justification l s st).only r p);
    }

pub limited-close : (l : ActivationLimit) (s : Settings) (st : BeaconState) → Agrees (CloseRefusal s st) (rust.limited_epoch l s st) (limited_document l s st)
unfolding rust.limited_epoch rust.limited_up_to fold_checked
limited-close l s st =
    bind-agrees _ (first_step l s st)
    (bind-agrees _ (or_more (inactivity l s _))
    (bind-agrees _ (or_more (rewards l s _))
    (bind-agrees _ (or_more (registry l s _))
    (bind-agrees _ (or_more (slashings l s _))
    (bind-agrees _ (or_more (effective-balances l s _))
    (bind-agrees _ (slashings-reset l s _)
    (bind-agrees _ (participation_flags l s _) value-agrees)))))))

pub close : (s : Settings) (st : BeaconState) → Agrees (CloseRefusal s st) (rust.process_epoch s st) (document.process_epoch s st)
unfolding document.process_epoch
close s st = limited-close Churn s st

pub close-agrees : CloseAgrees
close-agrees r st st' p = (under r).epoch st ∙ (close (settings_under r) st).same st' p

pub deneb_step-agrees : DenebStepAgrees
deneb_step-agrees s b maximum st st' k p = (in_place_lem s b).steps (AtMost maximum) st k ∙ (each_step (AtMost maximum) (in_place b s) st k).same st' p

pub deneb_close-agrees : DenebCloseAgrees
deneb_close-agrees s b maximum st st' p = (in_place_lem s b).deneb maximum st ∙ (limited-close (AtMost maximum) (in_place b s) st).same st' p

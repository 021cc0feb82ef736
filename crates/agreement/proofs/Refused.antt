-- Which refusals the steps and the close can answer.
use mathlib.Core.Path.{◌≡◌, refl}
use mathlib.Core.Logic.{◌⊎◌, inl, inr, ⊎_elim}
use Rattle.definitions.specs.declared.ActivationLimit.{ActivationLimit}
use Rattle.definitions.specs.declared.Settings.{Settings}
use Rattle.definitions.specs.declared.ActivationLimit.TheVariants.{Churn}
use Rattle.definitions.specs.Record.{BeaconState}
use Rattle.definitions.specs.Checked.{refused, bind}
use Rattle.definitions.specs.declared.Refusal.{Refusal}
use Rattle.definitions.specs.declared.Refusal.TheVariants.{NoRoot, Overflow}
use Rattle.definitions.specs.Document.Phase0.EpochProcessing.{process_slashings_reset}
use Rattle.definitions.specs.Document.Altair.EpochProcessing as document
use Rattle.definitions.specs.Rust.Altair.EpochProcessing as rust
use Rattle.definitions.specs.Refusals.{after_tests}
use Rattle.definitions.specs.Rules.{settings_under}
use Rattle.definitions.specs.Close.{limited_step, justification_step, Call, state_of, closed, process_epoch, limited_epoch}
use Rattle.agreement.specs.Refused.{Refused, AfterTests}
use Rattle.agreement.proofs.Close.{each_step, limited-close, close}

pub refused-by : (s : Settings) (st : BeaconState) → Refused s st
unfolding limited_step process_slashings_reset document.process_participation_flag_updates rust.process_participation_flag_updates
refused-by s st =
    record {
      slashings_reset = refl;
      participation_flags = refl;
      justification = λ r p. ⊎_elim (λ e. inl e) (λ e. inr e.0) ((each_step Churn s st justification_step).only r p);
      later = λ k n r p. ⊎_elim (λ e. e) (λ e. absurd (n e.1)) ((each_step Churn s st k).only r p);
      close = (close s st).only;
    }

pub limited-refused : (l : ActivationLimit) (s : Settings) (st : BeaconState) (r : Refusal) → limited_epoch l s st ≡ refused r → (r ≡ Overflow) ⊎ (r ≡ NoRoot)
limited-refused l s st r p = ⊎_elim (λ e. inl e) (λ e. inr e.0) ((limited-close l s st).only r p)

pub work-refused : (c : Call) (r : Refusal) → process_epoch (settings_under c.rules) (state_of c) ≡ refused r → (r ≡ Overflow) ⊎ (r ≡ NoRoot)
work-refused c r p = limited-refused Churn (settings_under c.rules) (state_of c) r p

pub after-tests : (c : Call) → AfterTests c
unfolding closed after_tests bind
after-tests c r t p = work-refused c r (rw t at p)

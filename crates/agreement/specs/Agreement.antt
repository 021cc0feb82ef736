-- Where the Rust's checked form gives a value, it is the document's: of each of the eight steps, and of the whole close, under either fork, and under
-- Deneb, whose limit of activations is the maximum's. Capella's eight steps are Bellatrix's.
use Rattle.std.specs.Prelude.{◌≡◌, List, ℕ, cond}
use Rattle.definitions.specs.declared.Settings.{Settings}
use Rattle.definitions.specs.declared.ActivationLimit.{ActivationLimit}
use Rattle.definitions.specs.declared.ActivationLimit.TheVariants.{Churn, AtMost}
use Rattle.definitions.specs.declared.Bellatrix.{Bellatrix}
use Rattle.definitions.specs.declared.Rules.{Rules}
use Rattle.definitions.specs.Record.{Validator, BeaconState}
use Rattle.definitions.specs.Checked.{value}
use Rattle.definitions.specs.Close as Rust
use Rattle.definitions.specs.Close.{Step, justification_step, inactivity_step, rewards_step, registry_step, slashings_step, effective_balances_step, slashings_reset_step, participation_flags_step}
use Rattle.definitions.specs.Rules.{is_altair, in_place, settings_under}
use Rattle.definitions.specs.Document.Phase0.EpochProcessing.{process_registry_updates, process_effective_balance_updates, process_slashings_reset}
use Rattle.definitions.specs.Document.Altair.Helpers.{get_inactivity_penalty_deltas}
use Rattle.definitions.specs.Document.Altair.EpochProcessing as Altair
use Rattle.definitions.specs.Document.Altair.EpochProcessing.{process_justification_and_finalization, process_inactivity_updates, process_rewards_and_penalties, process_slashings, process_participation_flag_updates}
use Rattle.definitions.specs.Document.Bellatrix as bellatrix
use Rattle.definitions.specs.Document.Capella as capella
use Rattle.definitions.specs.Document.Deneb as deneb
use Rattle.definitions.specs.Document.ByFork.{document_under}

-- the registry step by the limit of activations: phase0's, or Deneb's
abbrev pub limited_registry : ActivationLimit → Settings → BeaconState → BeaconState
limited_registry Churn s st = process_registry_updates s st
limited_registry (AtMost maximum) s st = deneb.process_registry_updates s maximum st

-- Altair's function for each step
abbrev pub limited_document_step : ActivationLimit → Settings → BeaconState → Step → BeaconState
limited_document_step l s st justification_step = process_justification_and_finalization s st
limited_document_step l s st inactivity_step = process_inactivity_updates s st
limited_document_step l s st rewards_step = process_rewards_and_penalties s s.inactivity_penalty_quotient_altair st
limited_document_step l s st registry_step = limited_registry l s st
limited_document_step l s st slashings_step = process_slashings s s.proportional_slashing_multiplier_altair st
limited_document_step l s st effective_balances_step = process_effective_balance_updates s st
limited_document_step l s st slashings_reset_step = process_slashings_reset s st
limited_document_step l s st participation_flags_step = process_participation_flag_updates st

abbrev pub document_step : Settings → BeaconState → Step → BeaconState
document_step s st k = limited_document_step Churn s st k

-- and Bellatrix's, which has two of its own
abbrev pub limited_bellatrix_step : ActivationLimit → Settings → Bellatrix → BeaconState → Step → BeaconState
limited_bellatrix_step l s b st justification_step = process_justification_and_finalization s st
limited_bellatrix_step l s b st inactivity_step = process_inactivity_updates s st
limited_bellatrix_step l s b st rewards_step = bellatrix.process_rewards_and_penalties s b st
limited_bellatrix_step l s b st registry_step = limited_registry l s st
limited_bellatrix_step l s b st slashings_step = bellatrix.process_slashings s b st
limited_bellatrix_step l s b st effective_balances_step = process_effective_balance_updates s st
limited_bellatrix_step l s b st slashings_reset_step = process_slashings_reset s st
limited_bellatrix_step l s b st participation_flags_step = process_participation_flag_updates st

abbrev pub bellatrix_step : Settings → Bellatrix → BeaconState → Step → BeaconState
bellatrix_step s b st k = limited_bellatrix_step Churn s b st k

-- Deneb's are Bellatrix's but for the registry's
abbrev pub deneb_step : Settings → Bellatrix → ℕ → BeaconState → Step → BeaconState
deneb_step s b maximum st k = limited_bellatrix_step (AtMost maximum) s b st k

-- Altair's process_epoch with either registry step
abbrev pub limited_document : ActivationLimit → Settings → BeaconState → BeaconState
limited_document l s st =
    let justified = process_justification_and_finalization s st in
    let scored = process_inactivity_updates s justified in
    let rewarded = process_rewards_and_penalties s s.inactivity_penalty_quotient_altair scored in
    let registered = limited_registry l s rewarded in
    let slashed = process_slashings s s.proportional_slashing_multiplier_altair registered in
    let balanced = process_effective_balance_updates s slashed in
    let reset = process_slashings_reset s balanced in
    process_participation_flag_updates reset

abbrev pub document_step_under : Rules → BeaconState → Step → BeaconState
document_step_under r st k = cond (is_altair r) (document_step r.settings st k) (bellatrix_step r.settings r.bellatrix st k)

abbrev pub StepAgrees : Type 0
StepAgrees = (r : Rules) (st st' : BeaconState) (k : Step) → Rust.step (settings_under r) st k ≡ value st' → document_step_under r st k ≡ st'

abbrev pub CloseAgrees : Type 0
CloseAgrees = (r : Rules) (st st' : BeaconState) → Rust.process_epoch (settings_under r) st ≡ value st' → document_under r st ≡ st'

abbrev pub DenebStepAgrees : Type 0
DenebStepAgrees =
    (s : Settings) (b : Bellatrix) (maximum : ℕ) (st st' : BeaconState) (k : Step)
    → Rust.limited_step (AtMost maximum) (in_place b s) st k ≡ value st' → deneb_step s b maximum st k ≡ st'

abbrev pub DenebCloseAgrees : Type 0
DenebCloseAgrees =
    (s : Settings) (b : Bellatrix) (maximum : ℕ) (st st' : BeaconState)
    → Rust.limited_epoch (AtMost maximum) (in_place b s) st ≡ value st' → deneb.process_epoch s b maximum st ≡ st'

-- 03, F-1: "Capella's text is given as a definition beside Bellatrix's, and a theorem says that its eight steps are Bellatrix's."
abbrev pub CapellaIsBellatrix : Type 0
CapellaIsBellatrix = (s : Settings) (b : Bellatrix) (st : BeaconState) → capella.process_epoch s b st ≡ bellatrix.process_epoch s b st

-- Bellatrix's text is Altair's with the pair in the places of the Altair two, so that all that is shown of Altair's for any settings holds of it
pub record InPlace (s : Settings) (b : Bellatrix) : Type 0 where
  pub epoch : (st : BeaconState) → bellatrix.process_epoch s b st ≡ Altair.process_epoch (in_place b s) st
  pub steps : (l : ActivationLimit) (st : BeaconState) (k : Step) → limited_bellatrix_step l s b st k ≡ limited_document_step l (in_place b s) st k
  pub deneb : (maximum : ℕ) (st : BeaconState) → deneb.process_epoch s b maximum st ≡ limited_document (AtMost maximum) (in_place b s) st
  pub leaf : (state_slot : ℕ) (vs : List Validator) → bellatrix.get_inactivity_penalty_deltas s b state_slot vs ≡ get_inactivity_penalty_deltas (in_place b s) b.inactivity_penalty_quotient_bellatrix state_slot vs

pub record Under (r : Rules) : Type 0 where
  pub epoch : (st : BeaconState) → document_under r st ≡ Altair.process_epoch (settings_under r) st
  pub steps : (st : BeaconState) (k : Step) → document_step_under r st k ≡ document_step (settings_under r) st k

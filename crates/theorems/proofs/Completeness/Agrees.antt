-- The document's 64-bit evaluation agrees with the document.
use mathlib.Core.Path.{◌≡◌, ◌∙◌}
use mathlib.Core.List.{List}
use Prim.Native.Nat.{ℕ}
use lib.Dec.{eqb}
use Rattle.definitions.specs.declared.ActivationLimit.{ActivationLimit}
use Rattle.definitions.specs.declared.ActivationLimit.TheVariants.{Churn, AtMost}
use Rattle.definitions.specs.declared.Settings.{Settings}
use Rattle.definitions.specs.Record.{Validator, BeaconState}
use Rattle.definitions.specs.Checked.{value}
use Rattle.definitions.specs.declared.Refusal.{Refusal}
use Rattle.definitions.specs.Rules.{settings_under, in_place}
use Rattle.definitions.specs.Document.Phase0.Helpers.{compute_activation_exit_epoch, get_current_epoch, get_previous_epoch, get_total_balance, get_total_active_balance}
use Rattle.definitions.specs.Document.Phase0.EpochProcessing as document_epoch
use Rattle.definitions.specs.Document.Phase0.EpochProcessing.{is_eligible, is_in_inactivity_leak}
use Rattle.definitions.specs.Document.Altair.Helpers as document_helpers
use Rattle.definitions.specs.Document.Altair.Helpers.{is_unslashed_participating, get_unslashed_participating_indices, get_flag_index_deltas, get_inactivity_penalty_deltas}
use Rattle.definitions.specs.Document.Altair.EpochProcessing as document
use Rattle.definitions.specs.Document.Deneb as deneb
use Rattle.definitions.specs.Rust.Altair.Helpers as rust_helpers
use Rattle.definitions.specs.Rust.Altair.EpochProcessing as rust
use Rattle.definitions.specs.Close.{Step, justification_step, inactivity_step, rewards_step, registry_step, slashings_step, effective_balances_step, slashings_reset_step, participation_flags_step, steps}
use Rattle.agreement.specs.Agreement.{limited_registry, limited_document_step, limited_document}
use Rattle.theorems.specs.Completeness.ListByList as by_lists
use Rattle.theorems.specs.Completeness.DocumentIn64Bits as in64
use Rattle.theorems.specs.Completeness.DocumentIn64Bits.{FlagTotals}
use Rattle.theorems.specs.Completeness.Complete.{StepAgreesIn64Bits, CloseAgreesIn64Bits, DenebAgreesIn64Bits}
use Rattle.laws.proofs.Checked.{fold_checked-value}
use Rattle.agreement.proofs.Agrees.{Agrees, IsOverflow, IsOverflowOrNoRoot, value-agrees, equal-agrees, bind-agrees, cond-agrees, add64-agrees, mul64-agrees, map-agrees, fold_agrees}
use Rattle.agreement.proofs.Helpers.{activation-exit-epoch, total-balance, total_active_balance, leak, kept-validators}
use Rattle.agreement.proofs.Deltas.{base_reward, inactivity-deltas}
use Rattle.agreement.proofs.Rewards.{apply-delta}
use Rattle.agreement.proofs.Registry.{registry-at}
use Rattle.agreement.proofs.EffectiveBalances.{effective-balance}
use Rattle.agreement.proofs.Justification.{justification}
use Rattle.agreement.proofs.Bellatrix.{in_place_lem, under}
use Rattle.theorems.proofs.Completeness.Laws.{zip_agrees}
use Rattle.agreement.proofs.Slashings.{slashings}
use Rattle.agreement.proofs.Close.{slashings-reset, participation_flags}

-- Inactivity

score : (s : Settings) (state_slot finalized_epoch : ℕ) (v : Validator) → Agrees IsOverflow (in64.update_inactivity_score s state_slot finalized_epoch v) (document.update_inactivity_score s state_slot finalized_epoch v)
unfolding in64.update_inactivity_score document.update_inactivity_score rust.moved_score rust.recovered_score
score s state_slot finalized_epoch v =
    let hit = is_unslashed_participating (get_current_epoch s state_slot) 1 (get_previous_epoch s state_slot) v in
    cond-agrees (is_eligible (get_previous_epoch s state_slot) v)
    (bind-agrees _ (cond-agrees hit value-agrees (add64-agrees _ _)) (bind-agrees _ (leak s _ _) value-agrees))
    value-agrees

inactivity : (l : ActivationLimit) (s : Settings) (st : BeaconState) → Agrees IsOverflow (in64.limited_step l s st inactivity_step) (document.process_inactivity_updates s st)
unfolding in64.limited_step in64.process_inactivity_updates document.process_inactivity_updates
inactivity l s st =
    let genesis = eqb (get_current_epoch s st.finality.slot) 0 in
    bind-agrees _ (cond-agrees genesis value-agrees (map-agrees (score s _ _) _)) (equal-agrees (kept-validators genesis _ st))

-- Rewards

-- the document's totals of a flag
abbrev pub totals_of : Settings → ℕ → List Validator → ℕ → FlagTotals
totals_of s state_slot vs flag_index =
    record {
      participating = get_total_balance s (get_unslashed_participating_indices s state_slot vs flag_index (get_previous_epoch s state_slot));
      active = get_total_active_balance s state_slot vs;
    }

pub flag-totals : (s : Settings) (state_slot : ℕ) (vs : List Validator) (flag_index : ℕ) → Agrees IsOverflow (in64.flag_totals s state_slot vs flag_index) (totals_of s state_slot vs flag_index)
unfolding in64.flag_totals
flag-totals s state_slot vs flag_index = bind-agrees _ (total-balance s _) (bind-agrees _ (total_active_balance s _ _) value-agrees)

delta_of_one : (s : Settings) (state_slot finalized_epoch : ℕ) (vs : List Validator) (flag_index : ℕ) (v : Validator) → Agrees IsOverflow (in64.flag_index_deltas s state_slot finalized_epoch flag_index (totals_of s state_slot vs flag_index) v) (document_helpers.flag_index_deltas s state_slot finalized_epoch vs flag_index v)
unfolding in64.flag_index_deltas document_helpers.flag_index_deltas rust_helpers.hit_deltas rust_helpers.miss_deltas
delta_of_one s state_slot finalized_epoch vs flag_index v =
    let previous_epoch = get_previous_epoch s state_slot in
    cond-agrees (is_eligible previous_epoch v)
    (bind-agrees _ (base_reward s _ v)
    (cond-agrees (is_unslashed_participating (get_current_epoch s state_slot) flag_index previous_epoch v)
    (bind-agrees _ (leak s _ _)
    (cond-agrees (is_in_inactivity_leak s state_slot finalized_epoch) value-agrees
    (bind-agrees _ (mul64-agrees _ _) (bind-agrees _ (mul64-agrees _ _) (bind-agrees _ (mul64-agrees _ _) value-agrees)))))
    (cond-agrees (eqb flag_index document_helpers.TIMELY_HEAD_FLAG_INDEX) value-agrees (bind-agrees _ (mul64-agrees _ _) value-agrees))))
    value-agrees

pub delta-agrees : (s : Settings) (state_slot finalized_epoch : ℕ) (vs : List Validator) (flag_index : ℕ) (v : Validator) → Agrees IsOverflow (in64.deltas_of_one s state_slot finalized_epoch vs flag_index v) (document_helpers.flag_index_deltas s state_slot finalized_epoch vs flag_index v)
unfolding in64.deltas_of_one
delta-agrees s state_slot finalized_epoch vs flag_index v =
    bind-agrees _ (flag-totals s _ _ _) (delta_of_one s state_slot finalized_epoch vs flag_index v)

pub flag-list : (s : Settings) (state_slot finalized_epoch : ℕ) (vs : List Validator) (flag_index : ℕ) → Agrees IsOverflow (in64.get_flag_index_deltas s state_slot finalized_epoch vs flag_index) (get_flag_index_deltas s state_slot finalized_epoch vs flag_index)
unfolding in64.get_flag_index_deltas get_flag_index_deltas
flag-list s state_slot finalized_epoch vs flag_index =
    bind-agrees _ (flag-totals s _ _ _) (map-agrees (delta_of_one s state_slot finalized_epoch vs flag_index) vs)

rewards : (l : ActivationLimit) (s : Settings) (st : BeaconState) → Agrees IsOverflow (in64.limited_step l s st rewards_step) (document.process_rewards_and_penalties s s.inactivity_penalty_quotient_altair st)
unfolding in64.limited_step in64.process_rewards_and_penalties by_lists.get_inactivity_penalty_deltas rust_helpers.get_inactivity_penalty_deltas document.process_rewards_and_penalties get_inactivity_penalty_deltas document.apply_deltas
rewards l s st =
    let genesis = eqb (get_current_epoch s st.finality.slot) 0 in
    bind-agrees _
    (cond-agrees genesis value-agrees
    (bind-agrees _ (flag-list s _ _ _ _)
    (bind-agrees _ (flag-list s _ _ _ _)
    (bind-agrees _ (flag-list s _ _ _ _)
    (bind-agrees _ (map-agrees (inactivity-deltas s _ _) _) (fold_agrees (zip_agrees apply-delta) _ _))))))
    (equal-agrees (kept-validators genesis _ st))

-- Registry

activate : (s : Settings) (state_slot : ℕ) (vs : List Validator) (index : ℕ) → let epoch = compute_activation_exit_epoch s (get_current_epoch s state_slot) in Agrees IsOverflow (in64.activate_at s state_slot vs index) (document_epoch.activate_at epoch vs index)
unfolding in64.activate_at
activate s state_slot vs index = bind-agrees _ (activation-exit-epoch s _) value-agrees

registry : (l : ActivationLimit) (s : Settings) (st : BeaconState) → Agrees IsOverflow (in64.limited_step l s st registry_step) (limited_registry l s st)
unfolding in64.limited_step in64.limited_registry_updates document_epoch.process_registry_updates document_epoch.dequeued deneb.process_registry_updates deneb.get_validator_activation_churn_limit
registry Churn s st = bind-agrees _ (bind-agrees _ (fold_agrees (registry-at s _) _ _) (fold_agrees (activate s _) _ _)) value-agrees
registry (AtMost maximum) s st = bind-agrees _ (bind-agrees _ (fold_agrees (registry-at s _) _ _) (fold_agrees (activate s _) _ _)) value-agrees

-- Effective balances

balance : (s : Settings) (v : Validator) → Agrees IsOverflow (in64.update_effective_balance s v) (document_epoch.update_effective_balance s v)
unfolding in64.update_effective_balance
balance s v = bind-agrees _ (mul64-agrees _ _) (bind-agrees _ (mul64-agrees _ _) (effective-balance s v))

effective-balances : (l : ActivationLimit) (s : Settings) (st : BeaconState) → Agrees IsOverflow (in64.limited_step l s st effective_balances_step) (document_epoch.process_effective_balance_updates s st)
unfolding in64.limited_step in64.process_effective_balance_updates document_epoch.process_effective_balance_updates
effective-balances l s st = bind-agrees _ (map-agrees (balance s) _) value-agrees

-- Every step

-- 4 from justification alone
abbrev StepAnswers : Step → Refusal → Type 0
StepAnswers justification_step = IsOverflowOrNoRoot
StepAnswers inactivity_step = IsOverflow
StepAnswers rewards_step = IsOverflow
StepAnswers registry_step = IsOverflow
StepAnswers slashings_step = IsOverflow
StepAnswers effective_balances_step = IsOverflow
StepAnswers slashings_reset_step = IsOverflow
StepAnswers participation_flags_step = IsOverflow

pub each_step : (l : ActivationLimit) (s : Settings) (st : BeaconState) (k : Step) → Agrees (StepAnswers k) (in64.limited_step l s st k) (limited_document_step l s st k)
unfolding in64.limited_step
each_step l s st justification_step = justification l s st
each_step l s st inactivity_step = inactivity l s st
each_step l s st rewards_step = rewards l s st
each_step l s st registry_step = registry l s st
each_step l s st slashings_step = slashings l s st
each_step l s st effective_balances_step = effective-balances l s st
each_step l s st slashings_reset_step = slashings-reset l s st
each_step l s st participation_flags_step = participation_flags l s st

-- of Altair's text with any settings and limit

pub step_given : (l : ActivationLimit) (s : Settings) (st st' : BeaconState) (k : Step) → in64.limited_step l s st k ≡ value st' → limited_document_step l s st k ≡ st'
step_given l s st st' k e = (each_step l s st k).same st' e

pub close-given : (l : ActivationLimit) (s : Settings) (st st' : BeaconState) → in64.limited_epoch l s st ≡ value st' → limited_document l s st ≡ st'
unfolding in64.limited_epoch
close-given l s st st' e = fold_checked-value (in64.limited_step l s) (limited_document_step l s) (λ before k after. step_given l s before after k) st steps e

-- of either fork's, and Deneb's

pub step_agrees_in_64_bits : StepAgreesIn64Bits
step_agrees_in_64_bits r st st' k e = (under r).steps st k ∙ step_given Churn (settings_under r) st st' k e

pub close_agrees_in_64_bits : CloseAgreesIn64Bits
unfolding document.process_epoch
close_agrees_in_64_bits r st st' e = (under r).epoch st ∙ close-given Churn (settings_under r) st st' e

pub deneb_agrees_in_64_bits : DenebAgreesIn64Bits
deneb_agrees_in_64_bits s b maximum st st' e = (in_place_lem s b).deneb maximum st ∙ close-given (AtMost maximum) (in_place b s) st st' e

-- Bellatrix's text is Altair's with the pair in place of the Altair two: all else that either reads of the settings is the same.
use mathlib.Core.Path.{◌≡◌, refl, ◌∙◌}
use mathlib.Core.Bool.{Bool, true, false, cond}
use mathlib.Core.List.{List}
use Prim.Native.Nat.{ℕ}
use Rattle.definitions.specs.declared.Settings.{Settings}
use Rattle.definitions.specs.declared.ActivationLimit.{ActivationLimit}
use Rattle.definitions.specs.declared.ActivationLimit.TheVariants.{Churn, AtMost}
use Rattle.definitions.specs.declared.Bellatrix.{Bellatrix}
use Rattle.definitions.specs.declared.Rules.{Rules}
use Rattle.definitions.specs.Record.{Validator, BeaconState}
use Rattle.definitions.specs.Rules.{is_altair, in_place, settings_under}
use Rattle.definitions.specs.Document.Phase0.Helpers.{compute_epoch_at_slot, get_current_epoch, get_previous_epoch, get_total_balance, get_total_active_balance, compute_activation_exit_epoch, compute_start_slot_at_epoch, get_block_root_at_slot, get_block_root, get_validator_churn_limit, is_eligible_for_activation_queue, initiate_validator_exit}
use Rattle.definitions.specs.Document.Phase0.EpochProcessing as phase0
use Rattle.definitions.specs.Document.Altair.Helpers as helpers
use Rattle.definitions.specs.Document.Altair.EpochProcessing as altair
use Rattle.definitions.specs.Document.Bellatrix as bellatrix
use Rattle.definitions.specs.Document.Capella as capella
use Rattle.definitions.specs.Document.Deneb as deneb
use Rattle.definitions.specs.Document.ByFork.{document_under}
use Rattle.definitions.specs.Close.{Step, justification_step, inactivity_step, rewards_step, registry_step, slashings_step, effective_balances_step, slashings_reset_step, participation_flags_step}
use Rattle.agreement.specs.Agreement.{limited_registry, limited_document_step, limited_bellatrix_step, limited_document, CapellaIsBellatrix, document_step, bellatrix_step, InPlace, Under}

-- each function reads none of the two numbers of the settings: what it computes is the same
module _ (s : Settings) (b : Bellatrix) where
  justification : (st : BeaconState) → altair.process_justification_and_finalization s st ≡ altair.process_justification_and_finalization (in_place b s) st
  unfolding altair.process_justification_and_finalization get_current_epoch get_previous_epoch compute_epoch_at_slot get_total_balance get_total_active_balance helpers.get_unslashed_participating_indices phase0.weigh_justification_and_finalization get_block_root get_block_root_at_slot compute_start_slot_at_epoch
  justification st = refl

  inactivity : (st : BeaconState) → altair.process_inactivity_updates s st ≡ altair.process_inactivity_updates (in_place b s) st
  unfolding altair.process_inactivity_updates altair.update_inactivity_score get_current_epoch get_previous_epoch compute_epoch_at_slot phase0.is_in_inactivity_leak phase0.get_finality_delay
  inactivity st = refl

  penalty-deltas : (quotient state_slot : ℕ) (vs : List Validator) → helpers.get_inactivity_penalty_deltas s quotient state_slot vs ≡ helpers.get_inactivity_penalty_deltas (in_place b s) quotient state_slot vs
  unfolding helpers.get_inactivity_penalty_deltas helpers.inactivity_penalty_deltas get_current_epoch get_previous_epoch compute_epoch_at_slot
  penalty-deltas quotient state_slot vs = refl

  rewards : (quotient : ℕ) (st : BeaconState) → altair.process_rewards_and_penalties s quotient st ≡ altair.process_rewards_and_penalties (in_place b s) quotient st
  unfolding altair.process_rewards_and_penalties helpers.get_flag_index_deltas helpers.flag_index_deltas helpers.get_base_reward helpers.get_base_reward_per_increment helpers.get_unslashed_participating_indices helpers.get_inactivity_penalty_deltas helpers.inactivity_penalty_deltas get_current_epoch get_previous_epoch compute_epoch_at_slot get_total_balance get_total_active_balance phase0.is_in_inactivity_leak phase0.get_finality_delay
  rewards quotient st = refl

  registry : (l : ActivationLimit) (st : BeaconState) → limited_registry l s st ≡ limited_registry l (in_place b s) st
  unfolding phase0.process_registry_updates deneb.process_registry_updates deneb.get_validator_activation_churn_limit phase0.update_registry_at phase0.queue_eligible phase0.is_ejected is_eligible_for_activation_queue initiate_validator_exit get_validator_churn_limit compute_activation_exit_epoch get_current_epoch compute_epoch_at_slot
  registry Churn st = refl
  registry (AtMost maximum) st = refl

  slashings : (multiplier : ℕ) (st : BeaconState) → altair.process_slashings s multiplier st ≡ altair.process_slashings (in_place b s) multiplier st
  unfolding altair.process_slashings altair.slash get_current_epoch compute_epoch_at_slot get_total_balance get_total_active_balance
  slashings multiplier st = refl

  effective-balances : (st : BeaconState) → phase0.process_effective_balance_updates s st ≡ phase0.process_effective_balance_updates (in_place b s) st
  unfolding phase0.process_effective_balance_updates phase0.update_effective_balance phase0.rounded_balance
  effective-balances st = refl

  slashings-reset : (st : BeaconState) → phase0.process_slashings_reset s st ≡ phase0.process_slashings_reset (in_place b s) st
  unfolding phase0.process_slashings_reset phase0.reset_slashings get_current_epoch compute_epoch_at_slot
  slashings-reset st = refl

  -- Bellatrix's rewards step is Altair's with its quotient
  own-rewards : (st : BeaconState) → bellatrix.process_rewards_and_penalties s b st ≡ altair.process_rewards_and_penalties s b.inactivity_penalty_quotient_bellatrix st
  unfolding bellatrix.process_rewards_and_penalties bellatrix.get_inactivity_penalty_deltas altair.process_rewards_and_penalties
  own-rewards st = refl

  steps : (l : ActivationLimit) (st : BeaconState) (k : Step) → limited_bellatrix_step l s b st k ≡ limited_document_step l (in_place b s) st k
  unfolding bellatrix.process_slashings
  steps l st justification_step = justification st
  steps l st inactivity_step = inactivity st
  steps l st rewards_step = own-rewards st ∙ rewards _ st
  steps l st registry_step = registry l st
  steps l st slashings_step = slashings _ st
  steps l st effective_balances_step = effective-balances st
  steps l st slashings_reset_step = slashings-reset st
  steps l st participation_flags_step = refl

  epoch : (st : BeaconState) → bellatrix.process_epoch s b st ≡ altair.process_epoch (in_place b s) st
  unfolding bellatrix.process_epoch bellatrix.process_slashings altair.process_epoch
  epoch st = simp (own-rewards, justification, inactivity, rewards, registry Churn, slashings, effective-balances, slashings-reset)

  deneb-epoch : (maximum : ℕ) (st : BeaconState) → deneb.process_epoch s b maximum st ≡ limited_document (AtMost maximum) (in_place b s) st
  unfolding deneb.process_epoch bellatrix.process_slashings
  deneb-epoch maximum st = simp (own-rewards, justification, inactivity, rewards, registry (AtMost maximum), slashings, effective-balances, slashings-reset)

  pub in_place_lem : InPlace s b
  unfolding bellatrix.get_inactivity_penalty_deltas
  in_place_lem = record { epoch = epoch; steps = steps; deneb = deneb-epoch; leaf = λ state_slot vs. penalty-deltas _ state_slot vs }

pub under : (r : Rules) → Under r
unfolding document_under settings_under
under r = record { epoch = λ st. epoch-by (is_altair r) st; steps = λ st k. step_by_lem (is_altair r) st k }
  where
    s : Settings
    s = r.settings

    epoch-by : (t : Bool) (st : BeaconState) → cond t (altair.process_epoch s st) (bellatrix.process_epoch s r.bellatrix st) ≡ altair.process_epoch (cond t s (in_place r.bellatrix s)) st
    epoch-by true st = refl
    epoch-by false st = (in_place_lem s r.bellatrix).epoch st

    step_by_lem : (t : Bool) (st : BeaconState) (k : Step) → cond t (document_step s st k) (bellatrix_step s r.bellatrix st k) ≡ document_step (cond t s (in_place r.bellatrix s)) st k
    step_by_lem true st k = refl
    step_by_lem false st k = (in_place_lem s r.bellatrix).steps Churn st k

pub capella_is_bellatrix : CapellaIsBellatrix
unfolding capella.process_epoch bellatrix.process_epoch
capella_is_bellatrix s b st = refl

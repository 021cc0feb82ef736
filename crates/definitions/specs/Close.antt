-- The whole close: the eight steps in order, what it is handed, what it hands back and what the buffers hold. And `charged`.
use Rattle.std.specs.Prelude.{Bool, cond, List, [], ◌∷◌, ℕ, eqb, length, take}
use Rattle.definitions.specs.declared.Settings.{Settings}
use Rattle.definitions.specs.declared.Finality.{Finality}
use Rattle.definitions.specs.declared.Raised.{Raised}
use Rattle.definitions.specs.declared.Rules.{Rules}
use Rattle.definitions.specs.declared.ActivationLimit.{ActivationLimit}
use Rattle.definitions.specs.declared.ActivationLimit.TheVariants.{Churn, AtMost}
use Rattle.definitions.specs.Lists.{filter}
use Rattle.definitions.specs.Record.{Validator, BeaconState, GENESIS_EPOCH, encode, decode}
use Rattle.definitions.specs.Updates.{with_validators, with_slashings, with_finality}
use Rattle.definitions.specs.Checked.{Checked, value, bind, fold_checked, code_of, settle}
use Rattle.definitions.specs.Refusals.{in_order, is_small, roots_shaped, slashings_shaped, registry_shaped, same_length, good_finality, good_registry, after_tests, closing_buffer}
use Rattle.definitions.specs.Rules.{settings_under, rules_shaped, good_rules}
use Rattle.definitions.specs.Raised.{raised_totals, raised_unless_refused}
use Rattle.definitions.specs.Rust.Phase0.Helpers.{get_current_epoch, get_previous_epoch}
use Rattle.definitions.specs.Rust.Phase0.EpochProcessing.{is_eligible, limited_registry_updates, process_effective_balance_updates, reset_slashings}
use Rattle.definitions.specs.Rust.Altair.EpochProcessing.{process_justification_and_finalization, process_inactivity_updates, process_rewards_and_penalties, process_slashings, process_participation_flag_updates}

-- a step that reads or writes the registry, on the state
abbrev pub on_validators : BeaconState → Checked (List Validator) → Checked BeaconState
on_validators st closing = bind closing (λ vs. value (with_validators vs st))

abbrev pub finalized_epoch_of : BeaconState → ℕ
finalized_epoch_of st = st.finality.finalized_checkpoint.epoch

-- in the order of Altair beacon-chain.md
pub data Step : Type 0 where
  justification_step inactivity_step rewards_step registry_step : Step
  slashings_step effective_balances_step slashings_reset_step participation_flags_step : Step

abbrev pub steps : List Step
steps =
    justification_step ∷
    inactivity_step ∷
    rewards_step ∷
    registry_step ∷
    slashings_step ∷
    effective_balances_step ∷
    slashings_reset_step ∷
    participation_flags_step ∷
    []

unfoldable pub limited_step : ActivationLimit → Settings → BeaconState → Step → Checked BeaconState
limited_step limit s st justification_step =
    bind (process_justification_and_finalization s st.block_roots st.finality st.validators) (λ f. value (with_finality f st))
limited_step limit s st inactivity_step =
    on_validators st (process_inactivity_updates s st.finality.slot (finalized_epoch_of st) st.validators)
limited_step limit s st rewards_step =
    let quotient = s.inactivity_penalty_quotient_altair in
    on_validators st (process_rewards_and_penalties s quotient st.finality.slot (finalized_epoch_of st) st.validators)
limited_step limit s st registry_step =
    on_validators st (limited_registry_updates limit s st.finality.slot (finalized_epoch_of st) st.validators)
limited_step limit s st slashings_step =
    let multiplier = s.proportional_slashing_multiplier_altair in
    on_validators st (process_slashings s multiplier st.finality.slot st.slashings st.validators)
limited_step limit s st effective_balances_step = on_validators st (process_effective_balance_updates s st.validators)
limited_step limit s st slashings_reset_step = value (with_slashings (reset_slashings s st.finality.slot st.slashings) st)
limited_step limit s st participation_flags_step = value (with_validators (process_participation_flag_updates st.validators) st)

-- the first n steps
unfoldable pub limited_up_to : ActivationLimit → ℕ → Settings → BeaconState → Checked BeaconState
limited_up_to limit n s st = fold_checked (limited_step limit s) st (take n steps)

-- altair/epoch_processing.rs 305, the eight steps of it
unfoldable pub limited_epoch : ActivationLimit → Settings → BeaconState → Checked BeaconState
limited_epoch limit s st = limited_up_to limit 8 s st

-- before Deneb
abbrev pub step : Settings → BeaconState → Step → Checked BeaconState
step s st k = limited_step Churn s st k

abbrev pub close_up_to : ℕ → Settings → BeaconState → Checked BeaconState
close_up_to n s st = limited_up_to Churn n s st

abbrev pub process_epoch : Settings → BeaconState → Checked BeaconState
process_epoch s st = limited_epoch Churn s st

-- All that a close is handed: opening, roots, and closing buffers of any contents
pub record Call : Type 0 where
  pub rules : Rules
  pub finality : Finality
  pub registry : List ℕ
  pub slashings : List ℕ
  pub roots : List ℕ
  pub closing_registry : List ℕ
  pub closing_slashings : List ℕ

abbrev pub state_of : Call → BeaconState
state_of c =
    record { finality = c.finality; validators = decode c.registry; slashings = c.slashings; block_roots = c.roots }

-- Test 2 of Deneb's number
abbrev pub good_limit : ActivationLimit → List Bool
good_limit Churn = []
good_limit (AtMost maximum) = is_small maximum ∷ []

unfoldable pub limited_tests : ActivationLimit → Call → Checked (Unit {0})
limited_tests limit c =
    let s = c.rules.settings in
    let closing = same_length c.registry c.closing_registry ∷ same_length c.slashings c.closing_slashings ∷ [] in
    let shaped = rules_shaped c.rules ∷ registry_shaped c.registry ∷ roots_shaped s c.roots ∷ slashings_shaped s c.slashings ∷ closing in
    in_order shaped (good_rules c.rules ∷ good_limit limit) (good_finality c.finality ∷ good_registry c.registry ∷ [])

abbrev pub close_tests : Call → Checked (Unit {0})
close_tests c = limited_tests Churn c

-- the closed state, or the refusal
unfoldable pub closed : Call → Checked BeaconState
closed c = after_tests (close_tests c) (process_epoch (settings_under c.rules) (state_of c))

-- What comes back and what the closing buffers hold. The refusal is 0 where the close is accepted. 02, R-7: which totals were raised.
pub record Outcome : Type 0 where
  pub refusal : ℕ
  pub finality : Finality
  pub raised : Raised
  pub closing_registry : List ℕ
  pub closing_slashings : List ℕ

unfoldable pub close : Call → Outcome
close c =
    let tests = close_tests c in
    let work = process_epoch (settings_under c.rules) (state_of c) in
    record {
      refusal = code_of (closed c);
      finality = (settle (closed c) (state_of c)).finality;
      raised = raised_unless_refused (closed c) (raised_totals c.rules.settings c.finality.slot (decode c.registry));
      closing_registry = closing_buffer (λ st. encode st.validators) tests work c.registry c.closing_registry;
      closing_slashings = closing_buffer (λ st. st.slashings) tests work c.slashings c.closing_slashings;
    }

-- 02, R-2: "the number that the repository's eligibility rule picks in the opening", and "At epoch 0 it is 0"
unfoldable pub charged : Settings → ℕ → List Validator → ℕ
charged s state_slot vs =
    let eligible = filter (is_eligible (get_previous_epoch s state_slot)) vs in
    cond (eqb (get_current_epoch s state_slot) GENESIS_EPOCH) 0 (length eligible)

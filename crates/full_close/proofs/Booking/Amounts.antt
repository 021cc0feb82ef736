-- The amounts of the whole close are those of the steps after justification.
use mathlib.Core.Path.{◌≡◌, ◌∙◌}
use mathlib.Core.List.{List}
use Prim.Native.Nat.{ℕ}
use Rattle.definitions.specs.declared.Settings.{Settings}
use Rattle.definitions.specs.declared.ActivationLimit.{ActivationLimit}
use Rattle.definitions.specs.declared.Finality.{Finality}
use Rattle.definitions.specs.Record.{Validator, BeaconState}
use Rattle.definitions.specs.Updates.{with_validators, with_finality}
use Rattle.definitions.specs.Checked.{value, fold_checked}
use Rattle.definitions.specs.Rust.Phase0.EpochProcessing.{limited_registry_updates}
use Rattle.definitions.specs.Rust.Altair.EpochProcessing.{process_justification_and_finalization, process_inactivity_updates, process_rewards_and_penalties}
use Rattle.definitions.specs.Close.{limited_step, limited_up_to}
use Rattle.laws.proofs.Checked.{bound}
use Rattle.arithmetic.proofs.Laws.{bind-value}
use Rattle.definitions_close.specs.Amounts.{booked_by_rewards, taken_by_slashings, limited_amounts}
use Rattle.full_close.specs.StepAmounts.{step_amounts}

module _ (by : ActivationLimit) (s : Settings) (st : BeaconState) {f : Finality} (justified : process_justification_and_finalization s st.block_roots st.finality st.validators ≡ value f) where
  abbrev slot : ℕ
  slot = f.slot

  abbrev fin : ℕ
  fin = f.finalized_checkpoint.epoch

  abbrev quotient : ℕ
  quotient = s.inactivity_penalty_quotient_altair

  module _ {scored : List Validator} (scores : process_inactivity_updates s slot fin st.validators ≡ value scored) where
    two : limited_up_to by 2 s st ≡ value (with_validators scored (with_finality f st))
    unfolding limited_up_to fold_checked limited_step
    two = bind-value _ (bind-value _ justified) ∙ bind-value _ (bind-value _ scores)

    four : {paid updated : List Validator} → process_rewards_and_penalties s quotient slot fin scored ≡ value paid → limited_registry_updates by s slot fin paid ≡ value updated → limited_up_to by 4 s st ≡ value (with_validators updated (with_finality f st))
    unfolding limited_up_to fold_checked limited_step
    four pays registers = bind-value _ (bind-value _ justified) ∙ bind-value _ (bind-value _ scores) ∙ bind-value _ (bind-value _ pays) ∙ bind-value _ (bind-value _ registers)

  pub amounts-are : {xs : List ℕ} → step_amounts by s slot fin st.slashings st.validators ≡ value xs → limited_amounts by s st ≡ value xs
  unfolding limited_amounts step_amounts
  amounts-are h =
      let a = bound (process_inactivity_updates s slot fin st.validators) _ h in
      let b = bound (booked_by_rewards s quotient slot fin a.first) _ a.then in
      let c = bound (process_rewards_and_penalties s quotient slot fin a.first) _ b.then in
      let d = bound (limited_registry_updates by s slot fin c.first) _ c.then in
      let e = bound (taken_by_slashings s s.proportional_slashing_multiplier_altair slot st.slashings d.first) _ d.then in
      bind-value _ (two a.gave) ∙ bind-value _ b.gave ∙ bind-value _ (four a.gave c.gave d.gave) ∙ bind-value _ e.gave ∙ e.then

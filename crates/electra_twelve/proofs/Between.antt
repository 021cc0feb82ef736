-- The states between the first six steps.
use mathlib.Core.Path.{◌≡◌, ap, ap₂, ◌∙◌}
use mathlib.Core.List.{[], ◌∷◌}
use lib.ListN.{take}
use Rattle.definitions.specs.Checked.{value, fold_checked}
use Rattle.definitions.specs.Rust.Altair.EpochProcessing.{process_justification_and_finalization, process_inactivity_updates, process_rewards_and_penalties}
use Rattle.laws.proofs.Checked.{value_same, bound}
use Rattle.laws.proofs.Loops.Iterated.{fold_checked-append}
use Rattle.arithmetic.proofs.Laws.{bind-value}
use Rattle.definitions_electra.specs.declared.ElectraRules.{ElectraRules}
use Rattle.definitions_electra.specs.Record.{ElectraState}
use Rattle.definitions_electra.specs.Evaluated.Electra.EpochProcessing.{pending_deposits, steps, electra_step, close_up_to}
use Rattle.electra_slashings.specs.Slashed.{slashed_registry}
use Rattle.electra_first.specs.Paid.{Paid, paid_by}
use Rattle.electra_first.specs.Taken.{exits_of, Taken, taken_by}
use Rattle.electra_first.specs.First.{Four, four_by, Five, five_by, after_five}
use Rattle.electra_first.proofs.Text.{state_at, justified, scored, paid, updated, up_to-five}
use Rattle.electra_steps.specs.Last.{Six, six_by, after_six, under}
use Rattle.electra_steps.proofs.Last.{sixth}

-- what each of the five gave
pub record Between (r : ElectraRules) (st : ElectraState) (v : Five) : Type 0 where
  pub justifies : process_justification_and_finalization (under r) st.altair.block_roots st.altair.finality st.altair.validators ≡ value v.finality
  pub scores : process_inactivity_updates (under r) v.finality.slot v.finality.finalized_checkpoint.epoch st.altair.validators ≡ value v.four.paid.scored
  pub pays : process_rewards_and_penalties (under r) (under r).inactivity_penalty_quotient_altair v.finality.slot v.finality.finalized_checkpoint.epoch v.four.paid.scored ≡ value v.four.paid.paid
  pub exits : exits_of r v.finality.slot v.finality.finalized_checkpoint.epoch st.churn v.four.paid.paid ≡ value v.four.taken.updated
  pub slashes : slashed_registry r.settings r.bellatrix.proportional_slashing_multiplier_bellatrix v.finality.slot st.altair.slashings v.four.taken.updated.validators ≡ value v.four.taken.lessened

module _ (r : ElectraRules) (st : ElectraState) (v : Five) where
  abbrev pub after_two : ElectraState
  after_two = state_at r st v.finality v.four.paid.scored st.churn

  abbrev pub after_three : ElectraState
  after_three = state_at r st v.finality v.four.paid.paid st.churn

  abbrev pub after_four : ElectraState
  after_four = state_at r st v.finality v.four.taken.updated.validators v.four.taken.updated.churn

module _ (r : ElectraRules) (st : ElectraState) {v : Five} (e : five_by r (under r) st.altair.finality st.churn st.altair.validators st.altair.slashings st.altair.block_roots ≡ value v) where
  pub between : Between r st v
  unfolding five_by four_by paid_by taken_by
  between =
      let a = bound _ _ e in
      let b = bound _ _ a.then in
      let c = bound _ _ b.gave in
      let d = bound _ _ c.then in
      let f = bound _ _ c.gave in
      let g = bound _ _ f.then in
      let h = bound _ _ d.gave in
      let i = bound _ _ h.then in
      let paid = value_same g.then in
      let exits = ap (λ (p : Paid). exits_of r a.first.slot a.first.finalized_checkpoint.epoch st.churn p.paid) paid ∙ h.gave in
      by (record { justifies = a.gave; scores = f.gave; pays = g.gave; exits = exits; slashes = i.gave })
      (ap₂ (λ (p : Paid) (t : Taken). record { finality = a.first; four = record { paid = p; taken = t } }) paid (value_same i.then)
      ∙ ap (λ (f : Four). record { finality = a.first; four = f }) (value_same d.then)
      ∙ value_same b.then)
    where
      by : {w : Five} → Between r st w → w ≡ v → Between r st v
      by b q = rw q at b

  pub two : close_up_to 2 r st ≡ value (after_two r st v)
  unfolding close_up_to fold_checked
  two = bind-value _ (justified r st ∙ bind-value _ between.justifies) ∙ bind-value _ (scored r st _ _ _ ∙ bind-value _ between.scores)

  pub four : close_up_to 4 r st ≡ value (after_four r st v)
  unfolding close_up_to fold_checked
  four =
      bind-value _ (justified r st ∙ bind-value _ between.justifies)
      ∙ bind-value _ (scored r st _ _ _ ∙ bind-value _ between.scores)
      ∙ bind-value _ (paid r st _ _ _ ∙ bind-value _ between.pays)
      ∙ bind-value _ (updated r st _ _ _ ∙ bind-value _ between.exits)

  pub five : close_up_to 5 r st ≡ value (after_five st v)
  five = up_to-five r st ∙ bind-value _ e

  pub six : (x : Six) → six_by r (after_five st v) ≡ value x → close_up_to 6 r st ≡ value (after_six (after_five st v) x)
  unfolding close_up_to fold_checked
  six x e₆ = fold_checked-append (electra_step r) st (take 5 steps) (pending_deposits ∷ []) ∙ bind-value _ five ∙ bind-value _ (sixth r (after_five st v) ∙ bind-value _ e₆)

-- The test's number tells the checkpoint: only the first step writes it.
use mathlib.Core.Path.{◌≡◌, refl, sym, ap, ◌∙◌, subst}
use mathlib.Core.Bool.{Bool, true, false, cond}
use mathlib.Core.Logic.{◌⊎◌, inl, inr}
use Prim.Native.Nat.{ℕ}
use borrow.Author.Tests.{eqb-true, eqb-false}
use lib.Dec.{eqb}
use Rattle.definitions.specs.declared.Settings.{Settings}
use Rattle.definitions.specs.declared.Rules.{Rules}
use Rattle.definitions.specs.declared.Finality.{Finality}
use Rattle.definitions.specs.declared.FullAnswer.{FullAnswer}
use Rattle.definitions.specs.Record.{BeaconState}
use Rattle.definitions.specs.Checked.{Checked, value, refused, bind, fold_checked}
use Rattle.definitions.specs.Refusals.{after_tests}
use Rattle.definitions.specs.Rules.{is_altair, in_place, settings_under}
use Rattle.definitions.specs.Document.Phase0.Helpers.{get_current_epoch, compute_epoch_at_slot}
use Rattle.definitions.specs.Rust.Altair.EpochProcessing.{process_justification_and_finalization}
use Rattle.definitions.specs.Close.{justification_step, inactivity_step, rewards_step, registry_step, slashings_step, effective_balances_step, slashings_reset_step, participation_flags_step, step, limited_step, state_of, limited_up_to, process_epoch, limited_epoch}
use Rattle.definitions_close.specs.FinalizingTest.{finalizing_test}
use Rattle.definitions_close.specs.FullClose.{FullCall, settings_of, full_tests, limited_fully_closed, full_close, limited_full_close}
use Rattle.definitions_close.specs.StoreClose.{call_by, rules_for, close_by, store_close}
use Rattle.laws.proofs.Checked.{value_same, bound}
use Rattle.theorems.specs.Amounts.Laws.{set_by}
use Rattle.theorems.specs.CloseBySteps.Desk.{Desk, Closed, eight_done, was_refused}
use Rattle.theorems.specs.StoreHistory.Steps.{acts}
use Rattle.theorems.specs.StoreHistory.Test.{CloseTells, StoreCloseTells, StepsTell}
use Rattle.theorems.proofs.Completeness.Told.{step-sets}
use Rattle.theorems.proofs.CloseBySteps.Folded.{same-finality}
use Rattle.theorems.proofs.StoreHistory.Steps.{store_any_calls, store_after-nine}

-- what justification gave is what the close gives
epoch-finality : (s : Settings) (a b : BeaconState) → process_epoch s a ≡ value b → process_justification_and_finalization s a.block_roots a.finality a.validators ≡ value b.finality
unfolding limited_epoch limited_up_to fold_checked limited_step
epoch-finality s a b p =
    let one = bound (step s a justification_step) _ p in
    let two = bound (step s one.first inactivity_step) _ one.then in
    let three = bound (step s two.first rewards_step) _ two.then in
    let four = bound (step s three.first registry_step) _ three.then in
    let five = bound (step s four.first slashings_step) _ four.then in
    let six = bound (step s five.first effective_balances_step) _ five.then in
    let seven = bound (step s six.first slashings_reset_step) _ six.then in
    let eight = bound (step s seven.first participation_flags_step) _ seven.then in
    let kept : b.finality ≡ one.first.finality =
    ap (λ (st : BeaconState). st.finality) (sym (value_same eight.then))
    ∙ same-finality s participation_flags_step _ _ refl eight.gave
    ∙ same-finality s slashings_reset_step _ _ refl seven.gave
    ∙ same-finality s effective_balances_step _ _ refl six.gave
    ∙ same-finality s slashings_step _ _ refl five.gave
    ∙ same-finality s registry_step _ _ refl four.gave
    ∙ same-finality s rewards_step _ _ refl three.gave
    ∙ same-finality s inactivity_step _ _ refl two.gave in
    let given = bound (process_justification_and_finalization s a.block_roots a.finality a.validators) _ one.gave in
    given.gave ∙ ap value (ap (λ (st : BeaconState). st.finality) (value_same given.then) ∙ sym kept)

-- the pair has no part in it
test-under : (r : Rules) (old f : Finality) → finalizing_test (settings_under r) old (value f) ≡ finalizing_test r.settings old (value f)
unfolding settings_under finalizing_test get_current_epoch compute_epoch_at_slot
test-under r old f = go (is_altair r)
  where
    go : (t : Bool) → finalizing_test (cond t r.settings (in_place r.bellatrix r.settings)) old (value f) ≡ finalizing_test r.settings old (value f)
    go true = refl
    go false = refl

closed_tells : (c : FullCall) (st : BeaconState) → process_epoch (settings_of c) (state_of c.call) ≡ value st → st.finality.finalized_checkpoint ≡ set_by (finalizing_test c.call.rules.settings c.call.finality (value st.finality)) c.call.finality
closed_tells c st e =
    step-sets (settings_of c) _ c.call.finality _ (epoch-finality (settings_of c) (state_of c.call) st e)
    ∙ ap (λ (n : ℕ). set_by n c.call.finality) (test-under c.call.rules c.call.finality st.finality)

pub close_tells : CloseTells
unfolding limited_full_close limited_fully_closed after_tests bind finalizing_test set_by
close_tells c = go (full_tests c) refl (process_epoch (settings_of c) (state_of c.call)) refl
  where
    go : (t : Checked (Unit {0})) → full_tests c ≡ t → (w : Checked BeaconState) → process_epoch (settings_of c) (state_of c.call) ≡ w → (full_close c).finality.finalized_checkpoint ≡ set_by (full_close c).test c.call.finality
    go (value u) t (value st) e = rw (t, e) (closed_tells c st e)
    go (value u) t (refused r) e = rw (t, e)
    go (refused r) t w e = rw t

pub store_close_tells : StoreCloseTells
unfolding store_close close_by set_by
store_close_tells c = go (rules_for c)
  where
    go : (m : Checked Rules) → (close_by c m).finality.finalized_checkpoint ≡ set_by (close_by c m).test c.finality
    go (value rules) = close_tells (call_by c rules)
    go (refused r) = refl

pub steps_tell : StepsTell
steps_tell c d h list f = go f
  where
    last : Desk
    last = acts c d list

    Told : FullAnswer → Type 0
    Told a = a.finality.finalized_checkpoint ≡ set_by a.test c.finality

    closed : Closed last → Told last.running.answer
    closed k = subst Told (sym (store_any_calls c d h list k).gives.answer) (store_close_tells c)

    ended : last.running.done ≡ 9 → (t : Bool) → eqb last.running.answer.refusal 0 ≡ t → Told last.running.answer
    ended e true z = subst Told (sym (store_after-nine c d h list e (eqb-true last.running.answer.refusal 0 z)).2.answer.0) (store_close_tells c)
    ended e false z = closed (was_refused e (eqb-false last.running.answer.refusal 0 z))

    go : (last.running.done ≡ 8) ⊎ (last.running.done ≡ 9) → Told last.running.answer
    go (inl e) = closed (eight_done e)
    go (inr e) = ended e _ refl

-- An accepted close leaves a slot below 2^48: the one that it was handed.
use mathlib.Core.Bool.{Bool, true, false}
use mathlib.Core.List.{List, [], ◌∷◌}
use mathlib.Core.Path.{◌≡◌, refl, sym, ap, ◌∙◌}
use Prim.Native.Nat.{ℕ, ◌^◌, ◌<◌}
use borrow.Author.Tests.{eqb-true, eqb-false}
use lib.Dec.{eqb}
use Rattle.definitions.specs.declared.Settings.{Settings}
use Rattle.definitions.specs.Record.{BeaconState}
use Rattle.definitions.specs.Checked.{Checked, value, refused, fold_checked, code_of, settle}
use Rattle.definitions.specs.Refusals.{after_tests}
use Rattle.definitions.specs.Rules.{settings_under}
use Rattle.definitions_file.specs.File.{Contents}
use Rattle.definitions.specs.Close.{Step, Call, state_of, step, limited_up_to, limited_epoch, close_tests, limited_tests, closed, close}
use Rattle.laws.proofs.Checked.{bound, number_not_zero, value_same}
use Rattle.laws.proofs.Tests.{in_order-value}
use Rattle.refusals.proofs.Laws.{good-finality}
use Rattle.laws.proofs.Frame.Slot.{slot_step}
use Rattle.definitions_file.specs.Listing.{closing}
use Rattle.definitions_file.specs.OutageRun.{close_once}
use Rattle.outage.specs.Went.{Went}
use Rattle.laws_file.proofs.Codes.{no-refusal}
use Rattle.refusals.proofs.Answers.{tested}

slot-steps : (s : Settings) (ks : List Step) (st after : BeaconState) → fold_checked (step s) st ks ≡ value after → after.finality.slot ≡ st.finality.slot
unfolding fold_checked
slot-steps s [] st after e = ap (λ (t : BeaconState). t.finality.slot) (sym (value_same e))
slot-steps s (k ∷ ks) st after e =
    let b = bound (step s st k) (λ next. fold_checked (step s) next ks) e in
    slot-steps s ks _ after b.then ∙ slot_step s k st _ b.gave

slot_kept : (c : Call) (after : BeaconState) → closed c ≡ value after → after.finality.slot ≡ c.finality.slot
unfolding closed after_tests limited_epoch limited_up_to
slot_kept c after e = slot-steps (settings_under c.rules) _ (state_of c) after (bound (close_tests c) _ e).then

slot_small : (c : Call) → (close c).refusal ≡ 0 → c.finality.slot < 2 ^ 48
unfolding close closed limited_tests
slot_small c e =
    let p = in_order-value _ _ _ (tested (close_tests c) _ (no-refusal (closed c) e)) in
    (good-finality c.finality (p.recorded 0)).slot

settled-slot : (c : Call) (m : Checked BeaconState) → closed c ≡ m → code_of m ≡ 0 → (settle m (state_of c)).finality.slot ≡ c.finality.slot
settled-slot c (value after) q z = slot_kept c after q
settled-slot c (refused r) q z = absurd (number_not_zero r z)

closed-slot : (c : Call) → (close c).refusal ≡ 0 → (close c).finality.slot ≡ c.finality.slot
unfolding close
closed-slot c e = settled-slot c (closed c) refl e

small_by : (c : Contents) (t : Bool) → eqb (close (closing c)).refusal 0 ≡ t → (close_once c).refusal ≡ 0 → (close_once c).contents.finality.slot < 2 ^ 48
unfolding close_once
small_by c true q e =
    let z = eqb-true (close (closing c)).refusal 0 q in
    rw (q, closed-slot (closing c) z) (slot_small (closing c) z)
small_by c false q e = absurd (eqb-false (close (closing c)).refusal 0 q (rw q at e))

once-small : (c : Contents) → (close_once c).refusal ≡ 0 → (close_once c).contents.finality.slot < 2 ^ 48
once-small c e = small_by c (eqb (close (closing c)).refusal 0) refl e

pub went-small : (c : Contents) {before : List ℕ} {at : ℕ} {after : List ℕ} {x : ℕ} {left : Contents} {last : ℕ} → Went (close_once c) 1 before at after x left last → x ≡ 0 → left.finality.slot < 2 ^ 48
went-small c w z =
    rw (ap (λ (d : Contents). d.finality.slot) w.stands) (once-small c (sym w.code ∙ z))

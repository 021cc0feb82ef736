-- Every answer of the step: the test's number tells the checkpoint.
use mathlib.Core.Path.{◌≡◌, refl, sym, ap, subst}
use mathlib.Core.Bool.{Bool, true, false, cond}
use mathlib.Core.List.{List}
use Prim.Native.Nat.{ℕ, ◌+◌}
use lib.Dec.{leb}
use Rattle.definitions.specs.declared.Settings.{Settings}
use Rattle.definitions.specs.declared.Finality.{Finality}
use Rattle.definitions.specs.declared.JustificationAnswer.{JustificationAnswer}
use Rattle.definitions.specs.Record.{Validator, GENESIS_EPOCH}
use Rattle.definitions.specs.Checked.{Checked, value, refused, bind, settle}
use Rattle.definitions.specs.Refusals.{after_tests}
use Rattle.definitions.specs.Document.Phase0.EpochProcessing.{weighed}
use Rattle.definitions.specs.Rust.Phase0.Helpers.{get_current_epoch, get_previous_epoch, get_total_balance, get_total_active_balance}
use Rattle.definitions.specs.Rust.Phase0.EpochProcessing.{weigh_justification_and_finalization}
use Rattle.definitions.specs.Rust.Altair.Helpers.{TIMELY_TARGET_FLAG_INDEX, get_unslashed_participating_indices}
use Rattle.definitions.specs.Rust.Altair.EpochProcessing.{process_justification_and_finalization}
use Rattle.definitions_close.specs.FinalizingTest.{last_test, finalizing_test}
use Rattle.definitions_close.specs.Justification.{less_test}
use Rattle.laws.proofs.Checked.{value_same, bound}
use Rattle.theorems.specs.Amounts.Laws.{set_by}
use Rattle.theorems.proofs.Amounts.Test.{set_by-test}
use Rattle.theorems.proofs.Completeness.OtherCalls.{justification-calls}
use Rattle.theorems.specs.Completeness.Told.{JustificationTells}

module _ (s : Settings) (roots : List ℕ) (old : Finality) (vs : List Validator) where
  abbrev epoch : ℕ
  epoch = get_current_epoch s old.slot

  abbrev target : ℕ → List Validator
  target = get_unslashed_participating_indices s old.slot vs TIMELY_TARGET_FLAG_INDEX

  -- where the weighing gave f
  abbrev Sets : Finality → Type 0
  Sets f = f.finalized_checkpoint ≡ set_by (last_test epoch f.justification_bits old) old

  weighing_sets : (total previous_target current_target : ℕ) {f : Finality} → weigh_justification_and_finalization s roots old total previous_target current_target ≡ value f → Sets f
  unfolding weigh_justification_and_finalization weighed
  weighing_sets total previous_target current_target e =
      let a = bound _ _ e in
      let b = bound _ _ a.then in
      let c = bound _ _ b.then in
      let d = bound _ _ c.then in
      subst Sets (value_same d.then) (set_by-test epoch _ old)

  pub step-sets : {f : Finality} → process_justification_and_finalization s roots old vs ≡ value f → f.finalized_checkpoint ≡ set_by (finalizing_test s old (value f)) old
  unfolding process_justification_and_finalization finalizing_test set_by
  step-sets {f} e = go (leb epoch (GENESIS_EPOCH + 1)) e
    where
      go : (b : Bool) → cond b (value old) (bind (get_total_active_balance s old.slot vs) (λ total. bind (get_total_balance s (target (get_previous_epoch s old.slot))) (λ previous_target. bind (get_total_balance s (target epoch)) (λ current_target. weigh_justification_and_finalization s roots old total previous_target current_target)))) ≡ value f → f.finalized_checkpoint ≡ set_by (cond b 0 (last_test epoch f.justification_bits old)) old
      go true e = ap (λ (g : Finality). g.finalized_checkpoint) (sym (value_same e))
      go false e =
          let a = bound (get_total_active_balance s old.slot vs) _ e in
          let b = bound (get_total_balance s (target (get_previous_epoch s old.slot))) _ a.then in
          let c = bound (get_total_balance s (target epoch)) _ b.then in
          weighing_sets a.first b.first c.first c.then

  -- also on refusal
  answer-sets : (tests : Checked (Unit {0})) → let m = after_tests tests (process_justification_and_finalization s roots old vs) in (settle m old).finalized_checkpoint ≡ set_by (finalizing_test s old m) old
  unfolding after_tests bind finalizing_test set_by
  answer-sets (refused r) = refl
  answer-sets (value u) = go (process_justification_and_finalization s roots old vs) refl
    where
      go : (m : Checked Finality) → process_justification_and_finalization s roots old vs ≡ m → (settle m old).finalized_checkpoint ≡ set_by (finalizing_test s old m) old
      go (value f) e = step-sets e
      go (refused r) e = refl

pub justification_tells : JustificationTells
justification_tells s st registry answer d h =
    record {
      call = justification-calls s st registry (less_test answer) d (ap less_test h);
      test = ap (λ (a : JustificationAnswer). a.test) h;
      sets = rw h (answer-sets s _ _ _ _);
    }

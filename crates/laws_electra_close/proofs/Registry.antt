-- The registry step under Electra leaves every balance, and the credentials.
use mathlib.Core.Path.{◌≡◌, refl, sym, ap, ◌∙◌}
use mathlib.Core.Bool.{Bool, true, false, cond, ◌&&◌}
use mathlib.Core.List.{List, [], ◌∷◌, map}
use Prim.Native.Nat.{ℕ}
use lib.Dec.{leb, eqb}
use lib.ListN.{length, get_or, set, length-set}
use lib.Seq.{map-set_same}
use Rattle.definitions.specs.Lists.{range}
use Rattle.definitions.specs.Record.{Validator, FAR_FUTURE_EPOCH, nobody}
use Rattle.definitions.specs.Updates.{with_eligibility, with_activation, with_exit}
use Rattle.definitions.specs.Checked.{Checked, value, bind, add64, fold_checked}
use Rattle.definitions.specs.Rust.Phase0.Helpers.{is_active_validator, is_eligible_for_activation, compute_activation_exit_epoch}
use Rattle.laws.proofs.Checked.{value_same, bound}
use Rattle.laws_close.specs.Nine.{balance_at}
use Rattle.laws_close.proofs.Amounts.Kept.{Kept, kept_same, kept_then}
use Rattle.definitions_electra.specs.declared.ElectraRules.{ElectraRules}
use Rattle.definitions_electra.specs.declared.ExitChurn.{ExitChurn}
use Rattle.definitions_electra.specs.Record.{ElectraState, with_vs, with_churn}
use Rattle.definitions_electra.specs.Document.Electra.Helpers.{is_eligible_for_activation_queue}
use Rattle.definitions_electra.specs.Document.Electra.EpochProcessing.{current_epoch_of, finalized_epoch_of}
use Rattle.definitions_electra.specs.Evaluated.Electra.Helpers.{compute_exit_epoch_and_update_churn, initiate_validator_exit}
use Rattle.definitions_electra.specs.Evaluated.Electra.EpochProcessing.{update_registry_at, process_registry_updates}
use Rattle.laws_electra_close.proofs.Lists.{set_keeps}

-- a state with the same balances, credentials and consolidations
pub record Left (st after : ElectraState) : Type 0 where
  pub kept : Kept st.altair.validators after.altair.validators
  pub compounding : after.compounding ≡ st.compounding
  pub queue : after.pending_consolidations ≡ st.pending_consolidations

pub left-same : {st after : ElectraState} → st ≡ after → Left st after
left-same e =
    record {
      kept = kept_same (ap (λ (s : ElectraState). s.altair.validators) e);
      compounding = ap (λ (s : ElectraState). s.compounding) (sym e);
      queue = ap (λ (s : ElectraState). s.pending_consolidations) (sym e);
    }

pub left-then : {a b c : ElectraState} → Left a b → Left b c → Left a c
left-then h k =
    record { kept = kept_then h.kept k.kept; compounding = k.compounding ∙ h.compounding; queue = k.queue ∙ h.queue }

abbrev pub effectives : List Validator → List ℕ
effectives vs = map (λ v. v.effective_balance) vs

-- with the effective balances too: the steps before the deposits
pub record Steady (st after : ElectraState) : Type 0 where
  pub left : Left st after
  pub effective : effectives after.altair.validators ≡ effectives st.altair.validators

pub steady_same : {st after : ElectraState} → st ≡ after → Steady st after
steady_same e = record { left = left-same e; effective = ap (λ (s : ElectraState). effectives s.altair.validators) (sym e) }

pub steady_then : {a b c : ElectraState} → Steady a b → Steady b c → Steady a c
steady_then h k = record { left = left-then h.left k.left; effective = k.effective ∙ h.effective }

-- a validator put in the place of one with its balance
steady_set : (st : ElectraState) (j : ℕ) (w : Validator) → w.balance ≡ balance_at st.altair.validators j → w.effective_balance ≡ (get_or st.altair.validators j nobody).effective_balance → Steady st (with_vs (set st.altair.validators j w) st)
steady_set st j w h e =
    record {
      left =
          record {
            kept = record { long = length-set st.altair.validators j w; balance = λ i l. set_keeps (λ (u v : Validator). v.balance ≡ u.balance) (λ u. refl) nobody st.altair.validators j w h i };
            compounding = refl;
            queue = refl;
          };
      effective = map-set_same (λ v. v.effective_balance) st.altair.validators j w nobody e;
    }

exit_steady : (r : ElectraRules) (st : ElectraState) (j : ℕ) {after : ElectraState} → initiate_validator_exit r st j ≡ value after → Steady st after
unfolding initiate_validator_exit
exit_steady r st j {after} e = go (eqb v.exit_epoch FAR_FUTURE_EPOCH) e
  where
    v : Validator
    v = get_or st.altair.validators j nobody

    churning : Checked ExitChurn
    churning = compute_exit_epoch_and_update_churn r st.altair.finality.slot st.altair.validators st.churn v.effective_balance

    delay : ℕ
    delay = r.settings.min_validator_withdrawability_delay

    exited : ExitChurn → ℕ → ElectraState
    exited churn withdrawable = with_churn churn (with_vs (set st.altair.validators j (with_exit churn.earliest_exit_epoch withdrawable v)) st)

    go : (t : Bool) → cond t (bind churning (λ churn. bind (add64 churn.earliest_exit_epoch delay) (λ withdrawable. value (exited churn withdrawable)))) (value st) ≡ value after → Steady st after
    go true e =
        let a = bound churning _ e in
        let b = bound (add64 a.first.earliest_exit_epoch delay) (λ withdrawable. value (exited a.first withdrawable)) a.then in
        let k = steady_set st j (with_exit a.first.earliest_exit_epoch b.first v) refl refl in
        steady_then (record { left = record { kept = k.left.kept; compounding = refl; queue = refl }; effective = k.effective }) (steady_same (value_same b.then))
    go false e = steady_same (value_same e)

update_steady : (r : ElectraRules) (activation : ℕ) (st : ElectraState) (j : ℕ) {after : ElectraState} → update_registry_at r activation st j ≡ value after → Steady st after
unfolding update_registry_at
update_steady r activation st j {after} e = go (is_eligible_for_activation_queue r.electra v) e
  where
    v : Validator
    v = get_or st.altair.validators j nobody

    eligible : ℕ → ElectraState
    eligible next = with_vs (set st.altair.validators j (with_eligibility next v)) st

    activated : ElectraState
    activated = with_vs (set st.altair.validators j (with_activation activation v)) st

    last : (t : Bool) → cond {A = Checked ElectraState} t (value activated) (value st) ≡ value after → Steady st after
    last true e = steady_then (steady_set st j (with_activation activation v) refl refl) (steady_same (value_same e))
    last false e = steady_same (value_same e)

    second : (t : Bool) → cond t (initiate_validator_exit r st j) (cond (is_eligible_for_activation (finalized_epoch_of st) v) (value activated) (value st)) ≡ value after → Steady st after
    second true e = exit_steady r st j e
    second false e = last (is_eligible_for_activation (finalized_epoch_of st) v) e

    go : (t : Bool) → cond t (bind (add64 (current_epoch_of r st) 1) (λ next. value (eligible next))) (cond (is_active_validator v (current_epoch_of r st) && leb v.effective_balance r.settings.ejection_balance) (initiate_validator_exit r st j) (cond (is_eligible_for_activation (finalized_epoch_of st) v) (value activated) (value st))) ≡ value after → Steady st after
    go true e =
        let a = bound (add64 (current_epoch_of r st) 1) (λ next. value (eligible next)) e in
        steady_then (steady_set st j (with_eligibility a.first v) refl refl) (steady_same (value_same a.then))
    go false e = second (is_active_validator v (current_epoch_of r st) && leb v.effective_balance r.settings.ejection_balance) e

updates_steady : (r : ElectraRules) (activation : ℕ) (st : ElectraState) (is : List ℕ) {after : ElectraState} → fold_checked (update_registry_at r activation) st is ≡ value after → Steady st after
unfolding fold_checked
updates_steady r activation st [] e = steady_same (value_same e)
updates_steady r activation st (i ∷ is) e =
    let a = bound (update_registry_at r activation st i) (λ us. fold_checked (update_registry_at r activation) us is) e in
    steady_then (update_steady r activation st i a.gave) (updates_steady r activation a.first is a.then)

pub registry_steady : (r : ElectraRules) (st : ElectraState) {after : ElectraState} → process_registry_updates r st ≡ value after → Steady st after
unfolding process_registry_updates
registry_steady r st e =
    let a = bound (compute_activation_exit_epoch r.settings (current_epoch_of r st)) _ e in
    updates_steady r a.first st (range 0 (length st.altair.validators)) a.then

-- Demand 2 of a call of the close.
use mathlib.Core.Path.{◌≡◌, refl, sym, ap, ◌∙◌}
use mathlib.Core.Logic.{◌⊎◌, inl, inr, ⊎_elim}
use Rattle.definitions.specs.declared.ActivationLimit.TheVariants.{Churn}
use Rattle.definitions.specs.Record.{BeaconState}
use Rattle.definitions.specs.Checked.{Checked, value, refused, bind}
use Rattle.definitions.specs.declared.Refusal.{Refusal}
use Rattle.definitions.specs.Refusals.{after_tests, closing_buffer}
use Rattle.definitions.specs.Raised.{raised_unless_refused}
use Rattle.definitions.specs.Rules.{settings_under}
use Rattle.definitions.specs.Document.ByFork.{document_under}
use Rattle.definitions.specs.Close.{Call, state_of, close_tests, closed, close}
use Rattle.theorems.specs.Completeness.DocumentIn64Bits as in64
use Rattle.theorems.specs.Completeness.Complete.{CloseParts}
use Rattle.theorems.specs.Completeness.Calls.{registry_of, slashings_of, outcome_by, DocumentClosed, CloseCall}
use Rattle.laws.proofs.Checked.{bound}
use Rattle.laws.proofs.Bounds.{close_passed}
use Rattle.agreement.proofs.Close.{close-agrees}
use Rattle.agreement.proofs.Restored.{restored}
use Rattle.theorems.proofs.Completeness.Close.{complete-close}

closed-agrees : (c : Call) (st : BeaconState) → closed c ≡ value st → document_under c.rules (state_of c) ≡ st
unfolding closed after_tests
closed-agrees c st e = close-agrees c.rules (state_of c) st (bound _ _ e).then

document-closed : (c : Call) → (close c).refusal ≡ 0 → DocumentClosed c (close c)
document-closed c z =
    let a = (restored c).accepted z in
    let e = sym (closed-agrees c a.state a.gave) in
    record { finality = a.finality ∙ ap (λ st. st.finality) e; registry = a.registry ∙ ap registry_of e; slashings = a.slashings ∙ ap slashings_of e }

-- the work shows only where the tests passed
pub after-refusal : (r : Refusal) (c : Call) (m n : Checked BeaconState) → outcome_by (refused r) c m ≡ outcome_by (refused r) c n
unfolding after_tests bind closing_buffer raised_unless_refused
after-refusal r c m n = refl

close-complete : (c : Call) (t : Checked (Unit {0})) → close_tests c ≡ t → (close c ≡ outcome_by (close_tests c) c (in64.process_epoch (settings_under c.rules) (state_of c))) ⊎ ((close_tests c ≡ value tt) × CloseParts Churn (settings_under c.rules) (state_of c))
unfolding close closed
close-complete c (refused r) t = inl (rw t (after-refusal r c _ _))
close-complete c (value u) t =
    ⊎_elim (λ e. inl (ap (outcome_by (close_tests c) c) e)) (λ p. inr (t, p)) (complete-close Churn (settings_under c.rules) (state_of c) (close_passed c t).passed)

pub close-call : (c : Call) → CloseCall c (close c)
close-call c = record { accepted = document-closed c; complete = close-complete c (close_tests c) refl }

-- Demand 2 of a full close, under any limit of activations.
use mathlib.Core.Path.{◌≡◌, sym, ap, ◌∙◌}
use mathlib.Core.List.{[], ◌∷◌}
use mathlib.Core.Logic.{◌⊎◌, inl, inr, ⊎_elim}
use Rattle.definitions.specs.declared.ActivationLimit.{ActivationLimit}
use Rattle.definitions.specs.declared.ActivationLimit.TheVariants.{Churn}
use Rattle.definitions.specs.Record.{BeaconState}
use Rattle.definitions.specs.Checked.{value, bind}
use Rattle.definitions.specs.Refusals.{after_tests}
use Rattle.definitions.specs.Rules.{good_rules}
use Rattle.definitions.specs.Close.{Call, state_of, good_limit, close_tests, limited_tests, limited_epoch}
use Rattle.definitions_close.specs.FullClose.{FullCall, settings_of, limited_full_tests, limited_fully_closed, full_close, limited_full_close}
use Rattle.laws.proofs.Checked.{number_not_zero}
use Rattle.laws.proofs.Tests.{settings-fewer}
use Rattle.laws.proofs.Bounds.{close_passed}
use Rattle.agreement.proofs.Close.{close-agrees}
use Rattle.theorems.specs.Completeness.DocumentIn64Bits as in64
use Rattle.theorems.specs.Completeness.Complete.{CloseParts}
use Rattle.theorems.specs.Completeness.Calls.{registry_of, slashings_of, outcome_by, Gives}
use Rattle.theorems.specs.FullClose.ByNumber.{plain_outcome, LimitedAccepted}
use Rattle.theorems.specs.FullClose.Demand2.{LimitedCloseCall, FullCloseCall}
use Rattle.theorems.proofs.Completeness.Close.{complete-close}
use Rattle.theorems.proofs.Completeness.CloseCalls.{after-refusal}
use Rattle.theorems.proofs.FullClose.ByNumber.{Tests, passed, turned, tests, lent-tests, plain_by, limited-by_number}

-- what the tests of a close say, those of one before Deneb say
pub fewer-tests : (l : ActivationLimit) (c : Call) → limited_tests l c ≡ value tt → close_tests c ≡ value tt
unfolding limited_tests
fewer-tests l c e = settings-fewer _ (good_rules c.rules ∷ []) (good_limit l) _ e

-- the work shows only where the tests passed
limited-complete : (l : ActivationLimit) (c : FullCall) → Tests l c → (plain_outcome (limited_full_close l c) ≡ outcome_by (limited_full_tests l c) c.call (in64.limited_epoch l (settings_of c) (state_of c.call))) ⊎ ((limited_full_tests l c ≡ value tt) × CloseParts l (settings_of c) (state_of c.call))
limited-complete l c (turned r n t) = inl (plain_by l c ∙ rw t (after-refusal r c.call _ _))
limited-complete l c (passed h t) =
    ⊎_elim (λ e. inl (plain_by l c ∙ ap (outcome_by (limited_full_tests l c) c.call) e)) (λ p. inr (t, p))
    (complete-close l (settings_of c) (state_of c.call) (close_passed c.call (fewer-tests l c.call (sym (lent-tests l c h) ∙ t))).passed)

pub limited_close_call : (l : ActivationLimit) (c : FullCall) (document : BeaconState) → ((st : BeaconState) → limited_epoch l (settings_of c) (state_of c.call) ≡ value st → document ≡ st) → LimitedCloseCall l document c (limited_full_close l c)
limited_close_call l c document agrees = record { accepted = λ z. gives ((limited-by_number l c).accepted z); complete = limited-complete l c (tests l c) }
  where
    gives : LimitedAccepted l c → Gives document (plain_outcome (limited_full_close l c))
    gives a =
        let e = sym (agrees a.state a.gave) in
        record { finality = a.finality ∙ ap (λ st. st.finality) e; registry = a.registry ∙ ap registry_of e; slashings = a.slashings ∙ ap slashings_of e }

pub full_close-call : (c : FullCall) → FullCloseCall c (full_close c)
full_close-call c = limited_close_call Churn c _ (close-agrees c.call.rules (state_of c.call))

-- an accepted close has passed the tests without pair and amounts
pub accepted-tests : (l : ActivationLimit) (c : FullCall) → (limited_full_close l c).refusal ≡ 0 → limited_tests l c.call ≡ value tt
unfolding limited_full_close limited_fully_closed after_tests bind
accepted-tests l c z = go (tests l c)
  where
    go : Tests l c → limited_tests l c.call ≡ value tt
    go (passed h t) = sym (lent-tests l c h) ∙ t
    go (turned r n t) = absurd (number_not_zero r (rw t at z))

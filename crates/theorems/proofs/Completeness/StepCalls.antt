-- Demand 2 and the table of refusals of the steps that have a closing buffer.
use mathlib.Core.Path.{◌≡◌, refl, sym, ap, ◌∙◌}
use mathlib.Core.Bool.{Bool, true, false}
use mathlib.Core.List.{List, [], ◌∷◌}
use mathlib.Core.Logic.{◌⊎◌, inl, inr, ⊎_elim}
use Prim.Native.Nat.{ℕ}
use native.Mathlib.Omega.{arith}
use Rattle.definitions.specs.declared.ActivationLimit.{ActivationLimit}
use Rattle.definitions.specs.declared.ActivationLimit.TheVariants.{Churn}
use Rattle.definitions.specs.declared.Settings.{Settings}
use Rattle.definitions.specs.declared.Rules.{Rules}
use Rattle.definitions.specs.Lists.{every}
use Rattle.definitions.specs.Record.{Validator, BeaconState, encode, decode}
use Rattle.definitions.specs.Updates.{with_validators, with_slashings}
use Rattle.definitions.specs.Checked.{Checked, value, refused, bind, number_of}
use Rattle.definitions.specs.declared.Refusal.{Refusal}
use Rattle.definitions.specs.declared.Refusal.TheVariants.{BadShape, BadRecord, Overflow}
use Rattle.definitions.specs.Refusals.{in_order, after_tests, closing_buffer, registry_tests, effective_balance_tests, slashings_reset_tests, rotation_tests}
use Rattle.definitions.specs.Rules.{settings_under, rewards_tests, slashings_tests}
use Rattle.definitions.specs.RegisterOrder.{registry_to_tests}
use Rattle.definitions.specs.Rust.Phase0.EpochProcessing.{process_registry_updates, reset_slashings}
use Rattle.definitions.specs.Rust.Altair.EpochProcessing as rust
use Rattle.definitions.specs.Close.{on_validators, finalized_epoch_of, Step, inactivity_step, rewards_step, registry_step, slashings_step, effective_balances_step, slashings_reset_step, participation_flags_step, limited_step}
use Rattle.agreement.specs.Agreement.{document_step}
use Rattle.laws.specs.Bounds.{Passed}
use Rattle.agreement.specs.Restored.{OneOf}
use Rattle.definitions.specs.Closes.{Closes}
use Rattle.theorems.specs.Completeness.DocumentIn64Bits as in64
use Rattle.theorems.specs.Completeness.Calls.{LimitedStepCall, registry_of, slashings_of, ByNumber, StepCall, StepCalls, RulesCalls, stopped_of, StoppedCalls}
use Rattle.laws.proofs.Tests.{tested, in_order-value}
use Rattle.laws.specs.Stopped.{kept_from}
use Rattle.laws.proofs.ActivationQueue.Stopped.{stopped}
use Rattle.agreement.proofs.Agrees.{Agrees, IsOverflow, not_refused}
use Rattle.agreement.proofs.Bellatrix.{under}
use Rattle.laws.proofs.Bounds.{tests-passed, rules-passed}
use Rattle.agreement.proofs.Inactivity.{inactivity}
use Rattle.agreement.proofs.Rewards.{rewards}
use Rattle.agreement.proofs.Registry.{registry}
use Rattle.agreement.proofs.Slashings.{slashings}
use Rattle.agreement.proofs.EffectiveBalances.{effective-balances}
use Rattle.agreement.proofs.Close.{slashings-reset, participation_flags}
use Rattle.agreement.proofs.Restored.{low, high, one_left, tests-number, work-number}
use Rattle.theorems.proofs.Completeness.Steps.{complete-step}

-- the contract's work, on the whole state
widen : {A : Type 0} (contents : A → List ℕ) (wide : BeaconState → List ℕ) (put : A → BeaconState) → ((a : A) → wide (put a) ≡ contents a) → (tests : Checked (Unit {0})) (work : Checked A) {opening closing after : List ℕ} {r : ℕ} → Closes contents tests work opening closing after r → Closes wide tests (bind work (λ a. value (put a))) opening closing after r
unfolding bind after_tests closing_buffer
widen contents wide put e (refused q) work h = record { number = h.number; buffer = h.buffer }
widen contents wide put e (value u) (refused q) h = record { number = h.number; buffer = h.buffer }
widen contents wide put e (value u) (value a) h = record { number = h.number; buffer = h.buffer ∙ sym (e a) }

-- what the tests and the work of a step can answer
abbrev Tests : List ℕ → Refusal → Type 0
Tests numbers q = OneOf (number_of q) numbers × OneOf (number_of q) (1 ∷ 2 ∷ 3 ∷ [])

abbrev Works : List ℕ → Refusal → Type 0
Works numbers q = OneOf (number_of q) numbers × OneOf (number_of q) (4 ∷ 5 ∷ [])

module _ {numbers : List ℕ} {P : Refusal → Type 0} {document : BeaconState} (contents : BeaconState → List ℕ) (none : OneOf 0 numbers) (worked : (q : Refusal) → P q → Works numbers q) where
  by_number : (tests : Checked (Unit {0})) (work : Checked BeaconState) → ((q : Refusal) → tests ≡ refused q → Tests numbers q) → Agrees P work document → {opening closing after : List ℕ} {r : ℕ} → Closes contents tests work opening closing after r → ByNumber numbers (contents document) opening closing after r
  unfolding bind after_tests closing_buffer
  by_number (refused q) work t a {r} h =
      let n : OneOf r (1 ∷ 2 ∷ 3 ∷ []) = rw h.number (t q refl).1 in
      record {
        number = rw h.number (t q refl).0;
        accepted = λ z. absurd (omega (arith, low r n));
        untouched = λ _. h.buffer;
        restored = λ o. absurd (omega (arith, low r n, high r o));
      }
  by_number (value u) (refused q) t a {r} h =
      let w = worked q (a.only q refl) in
      let n : OneOf r (4 ∷ 5 ∷ []) = rw h.number w.1 in
      record {
        number = rw h.number w.0;
        accepted = λ z. absurd (omega (arith, high r n));
        untouched = λ o. absurd (omega (arith, low r o, high r n));
        restored = λ _. h.buffer;
      }
  by_number (value u) (value st) t a {r} h =
      record {
        number = rw h.number none;
        accepted = λ _. h.buffer ∙ ap contents (sym (a.same st refl));
        untouched = λ o. absurd (omega (arith, h.number, low r o));
        restored = λ o. absurd (omega (arith, h.number, high r o));
      }

-- the work shows only where the tests passed
pub step-complete : (contents : BeaconState → List ℕ) {L : Type 0} (tests : Checked (Unit {0})) (m n : Checked BeaconState) → (tests ≡ value tt → (m ≡ n) ⊎ L) → {opening closing after : List ℕ} {r : ℕ} → Closes contents tests m opening closing after r → Closes contents tests n opening closing after r ⊎ ((tests ≡ value tt) × L)
unfolding bind after_tests closing_buffer
step-complete contents (refused q) m n e h = inl (record { number = h.number; buffer = h.buffer })
step-complete contents (value u) m n e h = ⊎_elim (λ p. inl (rw p at h)) (λ l. inr (refl, l)) (e refl)

-- 1, 2 or 3 from the tests, and 5 from the work
three : (a b d : List Bool) (q : Refusal) → in_order a b d ≡ refused q → Tests (0 ∷ 1 ∷ 2 ∷ 3 ∷ 5 ∷ []) q
three a b d q e =
    let n = tests-number a b d q e in
    (inr (one_left (number_of q) (1 ∷ 2 ∷ 3 ∷ []) (5 ∷ []) n), n)

five : (q : Refusal) → q ≡ Overflow → Works (0 ∷ 1 ∷ 2 ∷ 3 ∷ 5 ∷ []) q
five q e = (rw e (inr (inr (inr (inr (inl refl))))), work-number q (inl e))

-- the tests of flag rotation, which is lent no settings, answer 1 or 3
one_or_three : (a d : List Bool) (q : Refusal) → in_order a [] d ≡ refused q → Tests (0 ∷ 1 ∷ 3 ∷ []) q
unfolding in_order every
one_or_three a d q e = go (every a) (every d) e
  where
    go : (a d : Bool) → tested a true d ≡ refused q → Tests (0 ∷ 1 ∷ 3 ∷ []) q
    go false d e = let p : q ≡ BadShape = cc in rw p (inr (inl refl), inl refl)
    go true false e = let p : q ≡ BadRecord = cc in rw p (inr (inr (inl refl)), inr (inr (inl refl)))
    go true true e = absurd (not_refused e)

-- a step over the registry
pub on-registry : (st : BeaconState) (tests : Checked (Unit {0})) (work : Checked (List Validator)) {opening closing after : List ℕ} {r : ℕ} → Closes encode tests work opening closing after r → Closes registry_of tests (on_validators st work) opening closing after r
on-registry st tests work h = widen encode registry_of (λ vs. with_validators vs st) (λ vs. refl) tests work h

module _ (l : ActivationLimit) (s : Settings) (st : BeaconState) (contents : BeaconState → List ℕ) {opening closing after : List ℕ} {r : ℕ} where
  -- which refuses with 5 alone
  pub step_call : (k : Step) (a b d : List Bool) {document : BeaconState} → Agrees IsOverflow (limited_step l s st k) document → (k ≡ registry_step → in_order a b d ≡ value tt → Passed s st.finality.slot) → Closes contents (in_order a b d) (limited_step l s st k) opening closing after r → LimitedStepCall l s document st k contents (0 ∷ 1 ∷ 2 ∷ 3 ∷ 5 ∷ []) (in_order a b d) opening closing after r
  step_call k a b d h p c =
      record {
        by_number = by_number contents (inl refl) five (in_order a b d) (limited_step l s st k) (three a b d) h c;
        complete = step-complete contents (in_order a b d) (limited_step l s st k) (in64.limited_step l s st k) (λ t. complete-step l s st k (λ e. p e t)) c;
      }

-- registry alone asks for the bounds, and this step is another
other : {A : Type 0} → effective_balances_step ≡ registry_step → A
other e = let z : ◌≡◌ {A = ℕ} 0 1 = cc in absurd (omega arith)

-- the steps that never refuse
never : (numbers : List ℕ) (q : Refusal) → ⊥ → Works numbers q
never numbers q x = absurd x

three-alone : (a b d : List Bool) (q : Refusal) → in_order a b d ≡ refused q → Tests (0 ∷ 1 ∷ 2 ∷ 3 ∷ []) q
three-alone a b d q e = let n = tests-number a b d q e in (inr n, n)

module _ (s : Settings) (st : BeaconState) {closing after : List ℕ} {r : ℕ} where
  reset-call : let tests = slashings_reset_tests s st.finality.slot st.slashings closing in Closes (λ xs. xs) tests (value (reset_slashings s st.finality.slot st.slashings)) st.slashings closing after r → StepCall s (document_step s st slashings_reset_step) st slashings_reset_step slashings_of (0 ∷ 1 ∷ 2 ∷ 3 ∷ []) tests st.slashings closing after r
  unfolding slashings_reset_tests limited_step in64.limited_step bind
  reset-call h =
      let w = widen (λ xs. xs) slashings_of (λ xs. with_slashings xs st) (λ xs. refl) _ _ h in
      record {
        by_number = by_number slashings_of (inl refl) (never (0 ∷ 1 ∷ 2 ∷ 3 ∷ [])) _ _ (three-alone _ _ _) (slashings-reset Churn s st) w;
        complete = inl w;
      }

  flags-call : {opening : List ℕ} → decode opening ≡ st.validators → let tests = rotation_tests opening closing in Closes encode tests (value (rust.process_participation_flag_updates (decode opening))) opening closing after r → StepCall s (document_step s st participation_flags_step) st participation_flags_step registry_of (0 ∷ 1 ∷ 3 ∷ []) tests opening closing after r
  unfolding rotation_tests limited_step in64.limited_step bind
  flags-call e h =
      let w = on-registry st _ _ (rw e at h) in
      record {
        by_number = by_number registry_of (inl refl) (never (0 ∷ 1 ∷ 3 ∷ [])) _ _ (one_or_three _ _) (participation_flags Churn s st) w;
        complete = inl w;
      }

pub step-calls : (s : Settings) (st : BeaconState) (opening closing after : List ℕ) (r : ℕ) → StepCalls s st opening closing after r
unfolding registry_tests effective_balance_tests limited_step
step-calls s st opening closing after r =
    record {
      inactivity = λ e h. step_call Churn s st registry_of inactivity_step _ _ _ (inactivity Churn s st) (λ _ t. ((tests-passed s).registry st.finality.slot (finalized_epoch_of st) opening closing t).0) (on-registry st _ _ (rw e at h));
      registry = λ e h. step_call Churn s st registry_of registry_step _ _ _ (registry Churn s st) (λ _ t. ((tests-passed s).registry st.finality.slot (finalized_epoch_of st) opening closing t).0) (on-registry st _ _ (rw e at h));
      effective_balances = λ e h. step_call Churn s st registry_of effective_balances_step _ _ _ (effective-balances Churn s st) (λ k _. other k) (on-registry st _ _ (rw e at h));
      slashings_reset = reset-call s st;
      participation_flags = flags-call s st;
    }

pub rules-calls : (r : Rules) (st : BeaconState) (opening closing after : List ℕ) (n : ℕ) → RulesCalls r st opening closing after n
unfolding rewards_tests slashings_tests limited_step
rules-calls r st opening closing after n =
    let s = settings_under r in
    record {
      rewards = λ e h. rw ((under r).steps st rewards_step) (step_call Churn s st registry_of rewards_step _ _ _ (rewards Churn s st) (λ _ t. ((rules-passed r).rewards st.finality.slot (finalized_epoch_of st) opening closing t).0) (on-registry st _ _ (rw e at h)));
      slashings = λ e h. rw ((under r).steps st slashings_step) (step_call Churn s st registry_of slashings_step _ _ _ (slashings Churn s st) (λ _ t. (rules-passed r).slashings st.finality.slot st.slashings opening closing t) (on-registry st _ _ (rw e at h)));
    }

-- The registry step with a stop

-- what is made of the work at its end belongs to what the buffer holds
inside : {A : Type 0} (contents : A → List ℕ) (k : A → A) (tests : Checked (Unit {0})) (work : Checked A) {opening closing after : List ℕ} {r : ℕ} → Closes contents tests (bind work (λ a. value (k a))) opening closing after r → Closes (λ a. contents (k a)) tests work opening closing after r
unfolding bind after_tests closing_buffer
inside contents k (refused q) work h = record { number = h.number; buffer = h.buffer }
inside contents k (value u) (refused q) h = record { number = h.number; buffer = h.buffer }
inside contents k (value u) (value a) h = record { number = h.number; buffer = h.buffer }

pub stopped-calls : StoppedCalls
unfolding registry_to_tests registry_tests limited_step
stopped-calls stop s st opening closing after r e h =
    let slot = st.finality.slot in
    let finalized = finalized_epoch_of st in
    let vs = st.validators in
    let told = (stopped Churn s slot finalized vs).stopped stop in
    let kept = inside encode (kept_from stop vs) _ (process_registry_updates s slot finalized vs) (rw told at (rw e at h)) in
    step_call Churn s st (stopped_of stop vs) registry_step _ _ _ (registry Churn s st) (λ _ t. let p = in_order-value _ _ _ t in record { shaped = p.shaped 0; good = p.settings 0; small = p.recorded 0 })
    (widen (λ ws. encode (kept_from stop vs ws)) (stopped_of stop vs) (λ ws. with_validators ws st) (λ ws. refl) _ _ kept)

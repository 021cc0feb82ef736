-- What comes back of a full close, by what its tests and the eight steps answered.
use mathlib.Core.Path.{◌≡◌, refl, sym, ap, ◌∙◌}
use mathlib.Core.Bool.{Bool, true, false}
use mathlib.Core.List.{List, [], ◌∷◌}
use mathlib.Core.Logic.{◌⊎◌, inl, inr}
use Prim.Native.Nat.{ℕ, ◌*◌, ◌/◌, ◌≤◌}
use native.Mathlib.Omega.{arith}
use borrow.Author.Tests.{eqb-true, eq-eqb}
use lib.Dec.{eqb}
use lib.ListN.{length}
use Rattle.definitions.specs.declared.ActivationLimit.{ActivationLimit}
use Rattle.definitions.specs.declared.ActivationLimit.TheVariants.{Churn}
use Rattle.definitions.specs.Record.{Validator, BeaconState, decode}
use Rattle.definitions.specs.Checked.{Checked, value, refused, bind, number_of}
use Rattle.definitions.specs.declared.Refusal.{Refusal}
use Rattle.definitions.specs.declared.Refusal.TheVariants.{BadShape, WrongQueue}
use Rattle.definitions.specs.Refusals.{after_tests, closing_buffer}
use Rattle.definitions.specs.Raised.{raised_unless_refused}
use Rattle.definitions.specs.ExitQueue.{queue_of, is_queue_of, queue_test}
use Rattle.definitions.specs.Close.{state_of, limited_tests, closed, close, limited_epoch}
use Rattle.definitions_close.specs.Amounts.{limited_closing_amounts}
use Rattle.definitions_close.specs.FinalizingTest.{finalizing_test}
use Rattle.definitions_close.specs.FullClose.{FullCall, limited_full_tests, settings_of, limited_fully_closed, closing_queue, full_close, limited_full_close}
use Rattle.laws.proofs.Encode.{decode-encode}
use Rattle.validator_exit.proofs.queue_tests.Queue.{queue-passes}
use Rattle.agreement.specs.Restored.{OneOf}
use Rattle.agreement.proofs.Refused.{limited-refused}
use Rattle.agreement.proofs.Restored.{one_left, one_right, tests-number, work-number}
use Rattle.theorems.specs.Amounts.Laws.{Accounted}
use Rattle.theorems.proofs.Amounts.Accounted.{accounted}
use Rattle.theorems.specs.FullClose.ByNumber.{plain_outcome, Lent, LimitedAccepted, LimitedUntouched, LimitedOpening, LimitedByNumber, FullByNumber}
use Rattle.theorems.specs.Completeness.Calls.{outcome_by}
use Rattle.laws.proofs.Queue.{is-queue}

-- The tests

-- well lent, only the tests of `close` are left
pub lent-tests : (l : ActivationLimit) (c : FullCall) → Lent c → limited_full_tests l c ≡ limited_tests l c.call
unfolding limited_full_tests bind
lent-tests l c h = rw (eq-eqb _ _ h.long, h.queue, queue-passes (decode c.call.registry)) (last (limited_tests l c.call))
  where
    last : (m : Checked (Unit {0})) → bind m (λ _. value tt) ≡ m
    last (value u) = refl
    last (refused r) = refl

abbrev Turned : Refusal → Type 0
Turned r = OneOf (number_of r) (1 ∷ 2 ∷ 3 ∷ 8 ∷ [])

pub data Tests (l : ActivationLimit) (c : FullCall) : Type 0 where
  passed : Lent c → limited_full_tests l c ≡ value tt → Tests l c
  turned : (r : Refusal) → Turned r → limited_full_tests l c ≡ refused r → Tests l c

close-number : (l : ActivationLimit) (c : FullCall) (r : Refusal) → limited_tests l c.call ≡ refused r → Turned r
unfolding limited_tests
close-number l c r e = one_left (number_of r) (1 ∷ 2 ∷ 3 ∷ []) (8 ∷ []) (tests-number _ _ _ r e)

pub tests : (l : ActivationLimit) (c : FullCall) → Tests l c
unfolding limited_full_tests queue_test bind
tests l c = go (eqb (length c.amounts) (9 * (length c.call.registry / 10))) (limited_tests l c.call) (is_queue_of c.queue vs) refl refl refl
  where
    vs : List Validator
    vs = decode c.call.registry

    go : (a : Bool) (m : Checked (Unit {0})) (b : Bool) → eqb (length c.amounts) (9 * (length c.call.registry / 10)) ≡ a → limited_tests l c.call ≡ m → is_queue_of c.queue vs ≡ b → Tests l c
    go false m b p q z = turned BadShape (inl refl) (rw p)
    go true (refused r) b p q z = turned r (close-number l c r q) (rw (p, q))
    go true (value u) false p q z = turned WrongQueue (inr (inr (inr (inl refl)))) (rw (p, q, z))
    go true (value u) true p q z = passed (record { long = eqb-true _ _ p; queue = is-queue c.queue vs z }) (rw (p, q, z))

-- What comes back

-- all but pair, test and amounts, by the tests and the steps
pub plain_by : (l : ActivationLimit) (c : FullCall) → plain_outcome (limited_full_close l c) ≡ outcome_by (limited_full_tests l c) c.call (limited_epoch l (settings_of c) (state_of c.call))
unfolding limited_full_close limited_fully_closed
plain_by l c = refl

pub limited-same : (l : ActivationLimit) (c : FullCall) → Lent c → plain_outcome (limited_full_close l c) ≡ outcome_by (limited_tests l c.call) c.call (limited_epoch l (settings_of c) (state_of c.call))
limited-same l c h = plain_by l c ∙ ap (λ (t : Checked (Unit {0})). outcome_by t c.call (limited_epoch l (settings_of c) (state_of c.call))) (lent-tests l c h)

-- well lent, a close before Deneb answers as `close` does
pub lent_same : (c : FullCall) → Lent c → plain_outcome (full_close c) ≡ close c.call
unfolding close closed
lent_same c h = limited-same Churn c h

full-untouched : (l : ActivationLimit) (c : FullCall) (r : Refusal) → limited_full_tests l c ≡ refused r → LimitedUntouched l c
unfolding limited_full_close limited_fully_closed closing_queue limited_closing_amounts finalizing_test after_tests bind closing_buffer raised_unless_refused
full-untouched l c r t = record { finality = rw t; queue = rw t; raised = rw t; test = rw t; registry = rw t; slashings = rw t; amounts = rw t }

full-opening : (l : ActivationLimit) (c : FullCall) (r : Refusal) → Lent c → limited_full_tests l c ≡ value tt → limited_epoch l (settings_of c) (state_of c.call) ≡ refused r → LimitedOpening l c
unfolding limited_full_close limited_fully_closed closing_queue limited_closing_amounts finalizing_test after_tests bind closing_buffer raised_unless_refused
full-opening l c r h t w =
    record {
      lent = h;
      finality = rw (t, w);
      queue = rw (t, w);
      raised = rw (t, w);
      test = rw (t, w);
      registry = rw (t, w);
      slashings = rw (t, w);
      amounts = rw (t, w);
    }

module _ (l : ActivationLimit) (c : FullCall) (st : BeaconState) (h : Lent c) (t : limited_full_tests l c ≡ value tt) (w : limited_epoch l (settings_of c) (state_of c.call) ≡ value st) where
  booked : Accounted l (settings_of c) (state_of c.call) st
  booked = accounted l (settings_of c) (state_of c.call) w

  closing-registry : decode (limited_full_close l c).closing_registry ≡ st.validators
  unfolding limited_full_close closing_buffer
  closing-registry = rw (t, w) (decode-encode st.validators)

  closing-queue : (limited_full_close l c).queue ≡ queue_of st.validators
  unfolding limited_full_close limited_fully_closed closing_queue after_tests bind
  closing-queue = rw (t, w)

  closing-amounts : (limited_full_close l c).amounts ≡ booked.filled
  unfolding limited_full_close limited_closing_amounts closing_buffer bind
  closing-amounts = rw (t, w, booked.are)

  closing-test : (limited_full_close l c).test ≡ finalizing_test c.call.rules.settings c.call.finality (value (limited_full_close l c).finality)
  unfolding limited_full_close limited_fully_closed after_tests bind
  closing-test = rw (t, w)

  full-accepted : LimitedAccepted l c
  unfolding limited_full_close limited_fully_closed after_tests bind closing_buffer
  full-accepted =
      record {
        lent = h;
        queue = closing-queue ∙ ap queue_of (sym closing-registry);
        state = st;
        gave = w;
        finality = rw (t, w);
        registry = rw (t, w);
        slashings = rw (t, w);
        test = closing-test;
        filled = booked.are ∙ ap value (sym closing-amounts);
        equal = λ i b. rw (closing-registry, closing-amounts) (booked.equal i b);
      }

-- By number

data Row (l : ActivationLimit) (c : FullCall) : Type 0 where
  closes : (limited_full_close l c).refusal ≡ 0 → LimitedAccepted l c → Row l c
  touches_nothing : OneOf (limited_full_close l c).refusal (1 ∷ 2 ∷ 3 ∷ 8 ∷ []) → LimitedUntouched l c → Row l c
  restores : OneOf (limited_full_close l c).refusal (4 ∷ 5 ∷ []) → LimitedOpening l c → Row l c

row : (l : ActivationLimit) (c : FullCall) → Tests l c → (w : Checked BeaconState) → limited_epoch l (settings_of c) (state_of c.call) ≡ w → Row l c
unfolding limited_full_close limited_fully_closed after_tests bind
row l c (turned r n t) w p = touches_nothing (rw t n) (full-untouched l c r t)
row l c (passed h t) (refused r) p = restores (rw (t, p) (work-number r (limited-refused l (settings_of c) (state_of c.call) r p))) (full-opening l c r h t p)
row l c (passed h t) (value st) p = closes (rw (t, p)) (full-accepted l c st h t p)

turned-away : (n : ℕ) → OneOf n (1 ∷ 2 ∷ 3 ∷ 8 ∷ []) → (1 ≤ n) × ((n ≤ 3) ⊎ (n ≡ 8))
turned-away n (inl e) = (omega arith, inl (omega arith))
turned-away n (inr (inl e)) = (omega arith, inl (omega arith))
turned-away n (inr (inr (inl e))) = (omega arith, inl (omega arith))
turned-away n (inr (inr (inr (inl e)))) = (omega arith, inr e)
turned-away n (inr (inr (inr (inr o)))) = absurd o

failed : (n : ℕ) → OneOf n (4 ∷ 5 ∷ []) → (4 ≤ n) × (n ≤ 5)
failed n (inl e) = omega arith
failed n (inr (inl e)) = omega arith
failed n (inr (inr o)) = absurd o

not_both : (n : ℕ) → OneOf n (1 ∷ 2 ∷ 3 ∷ 8 ∷ []) → OneOf n (4 ∷ 5 ∷ []) → ⊥
not_both n a b = go (turned-away n a).1 (failed n b)
  where
    go : (n ≤ 3) ⊎ (n ≡ 8) → (4 ≤ n) × (n ≤ 5) → ⊥
    go (inl p) q = omega arith
    go (inr p) q = omega arith

from_row : (l : ActivationLimit) (c : FullCall) → Row l c → LimitedByNumber l c
from_row l c (closes e h) =
    record {
      number = inl e;
      accepted = λ _. h;
      untouched = λ o. absurd (omega (arith, (turned-away (limited_full_close l c).refusal o).0));
      opening = λ o. absurd (omega (arith, (failed (limited_full_close l c).refusal o).0));
      same = limited-same l c;
    }
from_row l c (touches_nothing e h) =
    record {
      number = inr (one_left (limited_full_close l c).refusal (1 ∷ 2 ∷ 3 ∷ 8 ∷ []) (4 ∷ 5 ∷ []) e);
      accepted = λ z. absurd (omega (arith, (turned-away (limited_full_close l c).refusal e).0));
      untouched = λ _. h;
      opening = λ o. absurd (not_both (limited_full_close l c).refusal e o);
      same = limited-same l c;
    }
from_row l c (restores e h) =
    record {
      number = inr (one_right (limited_full_close l c).refusal (1 ∷ 2 ∷ 3 ∷ 8 ∷ []) (4 ∷ 5 ∷ []) e);
      accepted = λ z. absurd (omega (arith, (failed (limited_full_close l c).refusal e).0));
      untouched = λ o. absurd (not_both (limited_full_close l c).refusal o e);
      opening = λ _. h;
      same = limited-same l c;
    }

pub limited-by_number : (l : ActivationLimit) (c : FullCall) → LimitedByNumber l c
limited-by_number l c = from_row l c (row l c (tests l c) (limited_epoch l (settings_of c) (state_of c.call)) refl)

pub full-by_number : (c : FullCall) → FullByNumber c
full-by_number c = limited-by_number Churn c

-- By what the tests and the ten steps answered.
use mathlib.Core.Path.{◌≡◌, refl, sym, ◌∙◌}
use mathlib.Core.Logic.{inl, inr}
use mathlib.Core.List.{[], ◌∷◌}
use native.Mathlib.Omega.{arith}
use Rattle.definitions.specs.Checked.{Checked, value, refused, number_of, bind}
use Rattle.definitions.specs.declared.Refusal.{Refusal}
use Rattle.definitions.specs.Refusals.{after_tests, closing_buffer}
use Rattle.definitions_electra.specs.Record.{ElectraState}
use Rattle.definitions_electra.specs.Evaluated.Electra.EpochProcessing.{process_epoch}
use Rattle.definitions_electra_close.specs.Close.{ElectraCall, electra_state_of, electra_tests, electra_closed, electra_answer, electra_close}
use Rattle.laws.proofs.Checked.{not_value}
use Rattle.agreement.specs.Restored.{OneOf}
use Rattle.agreement.proofs.Restored.{low, high, one_left, one_right, tests-number, work-number}
use Rattle.agreement_electra.proofs.Agrees.{epoch, epoch-agrees}
use Rattle.theorems_electra_close.specs.ByNumber.{Unanswered, Untouched, Opening, Accepted, ElectraCloseCall}

module _ (c : ElectraCall) where
  module _ (r : Refusal) where
    unanswered : electra_closed c ≡ refused r → Unanswered c
    unfolding electra_close electra_answer
    unanswered p =
        record {
          finality = rw p;
          raised = rw p;
          test = rw p;
          validators = rw p;
          deposits = rw p;
          consolidations = rw p;
          to_consume = rw p;
          churn = rw p;
        }

    turned : electra_tests c ≡ refused r → Untouched c
    unfolding electra_close electra_closed after_tests bind closing_buffer
    turned t =
        record {
          answer = unanswered (rw t);
          registry = rw t;
          compounding = rw t;
          slashings = rw t;
          deposits = rw t;
          consolidations = rw t;
          amounts = rw t;
        }

    failed : electra_tests c ≡ value tt → process_epoch c.rules (electra_state_of c) ≡ refused r → Opening c
    unfolding electra_close electra_closed after_tests bind closing_buffer
    failed t w =
        record {
          answer = unanswered (rw (t, w));
          registry = rw (t, w);
          compounding = rw (t, w);
          slashings = rw (t, w);
          deposits = rw (t, w);
          consolidations = rw (t, w);
          amounts = rw (t, w);
        }

  closes : (st : ElectraState) → electra_tests c ≡ value tt → process_epoch c.rules (electra_state_of c) ≡ value st → Accepted c
  unfolding electra_close electra_closed electra_answer after_tests bind closing_buffer
  closes st t w =
      record {
        state = st;
        gave = w;
        document = epoch-agrees c.rules (electra_state_of c) st w;
        finality = rw (t, w);
        raised = rw (t, w);
        test = rw (t, w);
        validators = rw (t, w);
        left = rw (t, w);
        rest = rw (t, w);
        to_consume = rw (t, w);
        churn = rw (t, w);
        registry = rw (t, w);
        compounding = rw (t, w);
        slashings = rw (t, w);
        deposits = rw (t, w);
        consolidations = rw (t, w);
      }

  tested : (r : Refusal) → electra_tests c ≡ refused r → OneOf (number_of r) (1 ∷ 2 ∷ 3 ∷ [])
  unfolding electra_tests
  tested r t = tests-number _ _ _ r t

  pub electra_close-call : ElectraCloseCall c
  unfolding electra_close electra_closed electra_answer after_tests bind
  electra_close-call = go (electra_tests c) refl (process_epoch c.rules (electra_state_of c)) refl
    where
      go : (m : Checked (Unit {0})) → electra_tests c ≡ m → (w : Checked ElectraState) → process_epoch c.rules (electra_state_of c) ≡ w → ElectraCloseCall c
      go (refused r) t w p =
          let n : OneOf (electra_close c).answer.refusal (1 ∷ 2 ∷ 3 ∷ []) = rw t (tested r t) in
          record {
            number = inr (one_left _ (1 ∷ 2 ∷ 3 ∷ []) (4 ∷ 5 ∷ []) n);
            accepted = λ z. absurd (omega (arith, low _ n));
            untouched = λ _. turned r t;
            opening = λ o. absurd (omega (arith, low _ n, high _ o));
            cause = λ u. absurd (not_value (sym t ∙ u));
          }
      go (value u) t (refused r) p =
          let n : OneOf (electra_close c).answer.refusal (4 ∷ 5 ∷ []) = rw (t, p) (work-number r ((epoch c.rules (electra_state_of c)).only r p)) in
          record {
            number = inr (one_right _ (1 ∷ 2 ∷ 3 ∷ []) (4 ∷ 5 ∷ []) n);
            accepted = λ z. absurd (omega (arith, high _ n));
            untouched = λ o. absurd (omega (arith, low _ o, high _ n));
            opening = λ _. failed r t p;
            cause = λ _. rw (t, p);
          }
      go (value u) t (value st) p =
          let z : (electra_close c).answer.refusal ≡ 0 = rw (t, p) in
          record {
            number = inl z;
            accepted = λ _. closes st t p;
            untouched = λ o. absurd (omega (arith, z, low _ o));
            opening = λ o. absurd (omega (arith, z, high _ o));
            cause = λ _. rw (t, p);
          }

-- From what the close promises: what is booked, the pair, and the test's number beside it.
use mathlib.Core.Path.{◌≡◌, sym, ap, subst, ◌∙◌}
use mathlib.Core.List.{List}
use Prim.Native.Nat.{ℕ, ◌/◌, ◌*◌}
use lib.ListN.{length, replicate}
use Rattle.definitions.specs.declared.Settings.{Settings}
use Rattle.definitions.specs.declared.ActivationLimit.{ActivationLimit}
use Rattle.definitions.specs.declared.Finality.{Finality}
use Rattle.definitions.specs.declared.ExitQueue.{ExitQueue}
use Rattle.definitions.specs.declared.CloseAnswer.{CloseAnswer}
use Rattle.definitions.specs.declared.FullAnswer.{FullAnswer}
use Rattle.definitions.specs.Record.{Validator, BeaconState, decode}
use Rattle.definitions.specs.Checked.{value, bind, settle}
use Rattle.definitions.specs.Refusals.{closing_buffer}
use Rattle.definitions.specs.ExitQueue.{queue_of}
use Rattle.definitions.specs.Close.{limited_epoch}
use Rattle.definitions_close.specs.Amounts.{limited_amounts, limited_closing_amounts}
use Rattle.definitions_close.specs.FinalizingTest.{finalizing_test}
use Rattle.definitions_close.specs.FullClose.{closing_queue}
use Rattle.laws.proofs.Encode.{decode-encode}
use Rattle.registry.proofs.Epochs.{Epochs}
use Rattle.write_steps.specs.RegistrySteps.{registry_steps}
use Rattle.write_steps.specs.Numbers.{BookedBy}
use Rattle.full_close.specs.StepAmounts.{step_amounts}
use Rattle.full_close.proofs.Booking.Booked.{steps-booked}
use Rattle.full_close.proofs.Booking.Amounts.{amounts-are}
use Rattle.close.specs.Worked.{StepsClosed}
use Rattle.registry_close.proofs.Worked.{code-refused, code-value}
use Rattle.full_close.specs.Worked.{FullWorked}
use Rattle.full_close.proofs.Accepted.{Accepted, accepted}

module _ {by : ActivationLimit} {s : Settings} {st : BeaconState} {opening lent lent_slashings closing closing_slashings : List ℕ} {r : CloseAnswer} (w : StepsClosed by s st opening lent lent_slashings closing closing_slashings r) where
  -- a step is refused
  pub full-refused : (r.refusal ≡ 0 → ⊥) → {q : ExitQueue} {lent_amounts filled : List ℕ} {answer : FullAnswer} → answer.refusal ≡ r.refusal → answer.finality ≡ r.finality → answer.queue ≡ q → answer.raised ≡ r.raised → answer.test ≡ 0 → filled ≡ replicate (length lent_amounts) 0 → FullWorked by s st q opening lent lent_slashings lent_amounts closing closing_slashings filled answer
  unfolding closing_queue finalizing_test limited_closing_amounts closing_buffer bind
  full-refused n number same pair flags none zeros =
      let p = code-refused (limited_epoch by s st) w.code n in
      record {
        code = number ∙ w.code;
        finality = same ∙ w.finality;
        queue = rw p.is pair;
        raised = flags ∙ w.raised;
        test = rw p.is none;
        registry = w.registry;
        slashings = w.slashings;
        filled = rw p.is zeros;
      }

  -- none is
  module _ (z : r.refusal ≡ 0) where
    abbrev after : BeaconState
    after = settle (limited_epoch by s st) st

    closed : limited_epoch by s st ≡ value after
    closed = code-value (limited_epoch by s st) st (sym w.code ∙ z)

    did : Accepted by s st after
    did = accepted by s st closed

    closing-is : decode closing ≡ after.validators
    unfolding closing_buffer
    closing-is = ap decode (rw closed at w.registry) ∙ decode-encode after.validators

    pub slot_same : r.finality.slot ≡ st.finality.slot
    slot_same = ap (λ (f : Finality). f.slot) w.finality ∙ did.slot

    pub steps-gave : registry_steps by s r.finality.slot r.finality.finalized_checkpoint.epoch st.slashings st.validators ≡ value (decode closing)
    steps-gave =
        subst (λ (f : Finality). registry_steps by s f.slot f.finalized_checkpoint.epoch st.slashings st.validators ≡ value (decode closing)) (sym w.finality) (did.steps ∙ ap value (sym closing-is))

    -- what was booked, by the registry xs that was lent
    pub booked-gave : Epochs s st.finality.slot → (xs : List ℕ) → st.validators ≡ decode xs → length xs ≡ 10 * (length xs / 10) → {filled : List ℕ} → BookedBy s r.finality.slot r.finality.finalized_checkpoint.epoch st.slashings xs closing filled → limited_amounts by s st ≡ value filled
    booked-gave ep xs e long {filled} h =
        let slot = r.finality.slot in
        let fin = r.finality.finalized_checkpoint.epoch in
        let steps = subst (λ (vs : List Validator). registry_steps by s slot fin st.slashings vs ≡ value (decode closing)) e steps-gave in
        let booked = steps-booked by s slot fin st.slashings xs closing (subst (Epochs s) (sym slot_same) ep) long steps h in
        amounts-are by s st (did.justified ∙ ap value (sym w.finality)) (subst (λ (vs : List Validator). step_amounts by s slot fin st.slashings vs ≡ value filled) (sym e) booked)

    pub full-accepted : {q : ExitQueue} {lent_amounts filled : List ℕ} {answer : FullAnswer} → answer.refusal ≡ 0 → answer.finality ≡ r.finality → answer.queue ≡ queue_of (decode closing) → answer.raised ≡ r.raised → answer.test ≡ finalizing_test s st.finality (value r.finality) → limited_amounts by s st ≡ value filled → FullWorked by s st q opening lent lent_slashings lent_amounts closing closing_slashings filled answer
    unfolding closing_queue limited_closing_amounts closing_buffer bind
    full-accepted number same pair flags test are =
        record {
          code = number ∙ sym z ∙ w.code;
          finality = same ∙ w.finality;
          queue = rw closed (pair ∙ ap queue_of closing-is);
          raised = flags ∙ w.raised;
          test = rw closed (test ∙ ap (λ (f : Finality). finalizing_test s st.finality (value f)) w.finality);
          registry = w.registry;
          slashings = w.slashings;
          filled = rw (closed, are);
        }

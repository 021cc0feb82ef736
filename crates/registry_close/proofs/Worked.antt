-- The eight steps, from what justification answered and what the six steps over the registry left.
use mathlib.Core.Path.{◌≡◌, refl, sym, ap, ◌∙◌}
use mathlib.Core.Bool.{true}
use mathlib.Core.List.{List}
use Prim.Native.Nat.{ℕ, ◌^◌, ◌<◌}
use Rattle.definitions.specs.declared.Settings.{Settings}
use Rattle.definitions.specs.declared.ActivationLimit.{ActivationLimit}
use Rattle.definitions.specs.declared.Finality.{Finality}
use Rattle.definitions.specs.declared.Raised.{Raised}
use Rattle.definitions.specs.declared.CloseAnswer.{CloseAnswer}
use Rattle.definitions.specs.Record.{BeaconState, decode, encode}
use Rattle.definitions.specs.Updates.{with_validators}
use Rattle.definitions.specs.declared.Refusal.{Refusal}
use Rattle.definitions.specs.Checked.{Checked, value, refused, number_of, code_of, done, settle, bind}
use Rattle.definitions.specs.Raised.{raised_totals, raised_unless_refused, close_answer_for}
use Rattle.definitions.specs.Refusals.{good_finality}
use Rattle.definitions.specs.Rust.Phase0.EpochProcessing.{reset_slashings}
use Rattle.definitions.specs.Rust.Altair.EpochProcessing.{process_justification_and_finalization}
use Rattle.definitions.specs.Close.{limited_epoch}
use Rattle.laws.proofs.Checked.{number_not_zero, not_value, value_same}
use Rattle.laws.specs.Ran.{Ran}
use Rattle.laws.proofs.Loops.Ran.{ran-gave, ran-by}
use Rattle.refusals.proofs.Laws.{GoodFinality, good-finality}
use Rattle.laws.proofs.Moved.{FinalizedMoved, Moved}
use Rattle.laws.proofs.Checkpoints.{justification-moves}
use Rattle.write_steps.specs.RegistrySteps.{registry_steps}
use Rattle.registry_close.specs.Worked.{state_now, LimitedWorked}
use Rattle.registry_close.proofs.Steps.{justification-refused, reset, eight-steps}

-- by the number of an answer

pub record Refused {A : Type 0} (m : Checked A) (q : ℕ) : Type 0 where
  pub why : Refusal
  pub is : m ≡ refused why
  pub number : q ≡ number_of why

pub code-refused : {A : Type 0} (m : Checked A) {q : ℕ} → q ≡ code_of m → (q ≡ 0 → ⊥) → Refused m q
code-refused (value a) e z = absurd (z e)
code-refused (refused r) e z = record { why = r; is = refl; number = e }

pub code-value : {A : Type 0} (m : Checked A) (a : A) → code_of m ≡ 0 → m ≡ value (settle m a)
code-value (value b) a e = refl
code-value (refused p) a e = absurd (number_not_zero p e)

bind-refused : {A B : Type 0} {m : Checked A} (k : A → Checked B) {p : Refusal} → m ≡ refused p → bind m k ≡ refused p
unfolding bind
bind-refused k e = rw e

-- what justification answered

refusal_is : {r a : CloseAnswer} → r ≡ a → r.refusal ≡ a.refusal
refusal_is e = ap (λ (b : CloseAnswer). b.refusal) e

-- a refusal's answer is none of 0
pub answered : (p : Refusal) (f : Finality) (raised : Raised) {answer : CloseAnswer} → answer ≡ close_answer_for (refused p) f raised → answer.refusal ≡ 0 → ⊥
answered p f raised e z = number_not_zero p (sym (refusal_is e) ∙ z)

finality-is : {r a : CloseAnswer} → r ≡ a → r.finality ≡ a.finality
finality-is e = ap (λ (b : CloseAnswer). b.finality) e

raised_is : {r a : CloseAnswer} → r ≡ a → r.raised ≡ a.raised
raised_is e = ap (λ (b : CloseAnswer). b.raised) e

module _ (f : Finality) (raised : Raised) where
  gave : (m : Checked Finality) {r : CloseAnswer} → r ≡ close_answer_for m f raised → r.refusal ≡ 0 → m ≡ value r.finality
  gave (value g) h z = ap value (sym (finality-is h))
  gave (refused p) h z = absurd (answered p f raised h z)

  gave-raised : (m : Checked Finality) {r : CloseAnswer} → r ≡ close_answer_for m f raised → r.refusal ≡ 0 → r.raised ≡ raised
  unfolding raised_unless_refused
  gave-raised (value g) h z = raised_is h
  gave-raised (refused p) h z = absurd (answered p f raised h z)

-- the steps are refused, or give `after`

stopped : (by : ActivationLimit) (s : Settings) (st : BeaconState) {registry slashings : List ℕ} {p : Refusal} (raised : Raised) {r : CloseAnswer} → limited_epoch by s st ≡ refused p → r ≡ close_answer_for (refused p) st.finality raised → LimitedWorked by s st registry slashings r
unfolding raised_unless_refused
stopped by s st raised is e =
    record { code = rw is (refusal_is e); finality = rw is (finality-is e); raised = rw is (raised_is e); held = λ after v. absurd (not_value (sym is ∙ v)) }

worked : (by : ActivationLimit) (s : Settings) (st after : BeaconState) {registry slashings : List ℕ} {r : CloseAnswer} → limited_epoch by s st ≡ value after → r.refusal ≡ 0 → r.finality ≡ after.finality → r.raised ≡ raised_totals s st.finality.slot st.validators → registry ≡ encode after.validators → slashings ≡ after.slashings → LimitedWorked by s st registry slashings r
unfolding raised_unless_refused
worked by s st after e z f n a b =
    record {
      code = rw e z;
      finality = rw e f;
      raised = rw e n;
      held = λ other v. let same = value_same (sym e ∙ v) in (rw same at a, rw same at b);
    }

still : {e : ℕ} {was now : Finality} → GoodFinality was → Moved e was now → now.finalized_checkpoint.epoch < 2 ^ 48
still g (Moved.kept a b c) = rw c g.finalized
still g (Moved.weighed a b (FinalizedMoved.same c)) = rw c g.finalized
still g (Moved.weighed a b (FinalizedMoved.from_previous c k l)) = rw c g.previous
still g (Moved.weighed a b (FinalizedMoved.from_current c k l)) = rw c g.current

module _ (by : ActivationLimit) (s : Settings) (f : Finality) (xs slashings roots : List ℕ) {r : CloseAnswer} (h : r ≡ close_answer_for (process_justification_and_finalization s roots f (decode xs)) f (raised_totals s f.slot (decode xs))) where
  -- the slot stays
  pub slot_kept : r.refusal ≡ 0 → r.finality.slot ≡ f.slot
  slot_kept z = (justification-moves s roots f (decode xs) (gave f _ _ h z)).slot

  -- and the finalized epoch stays small: it is that of a checkpoint of the opening
  pub finalized-small : r.refusal ≡ 0 → good_finality f ≡ true → r.finality.finalized_checkpoint.epoch < 2 ^ 48
  finalized-small z e = still (good-finality f e) (justification-moves s roots f (decode xs) (gave f _ _ h z)).moved

  -- justification is refused
  pub worked_unjustified : {ys zs : List ℕ} → (r.refusal ≡ 0 → ⊥) → LimitedWorked by s (state_now f xs slashings roots) ys zs r
  worked_unjustified {ys} {zs} z = go (process_justification_and_finalization s roots f (decode xs)) refl h
    where
      raised : Raised
      raised = raised_totals s f.slot (decode xs)

      go : (m : Checked Finality) → process_justification_and_finalization s roots f (decode xs) ≡ m → r ≡ close_answer_for m f raised → LimitedWorked by s (state_now f xs slashings roots) ys zs r
      go (value g) q e = absurd (z (refusal_is e))
      go (refused p) q e = stopped by s (state_now f xs slashings roots) raised (justification-refused by s (state_now f xs slashings roots) q) e

  module _ (z : r.refusal ≡ 0) where
    steps : limited_epoch by s (state_now f xs slashings roots) ≡ bind (registry_steps by s r.finality.slot r.finality.finalized_checkpoint.epoch slashings (decode xs)) (λ vs. value (with_validators vs (reset s (state_now r.finality xs slashings roots))))
    steps = eight-steps by s (state_now f xs slashings roots) (gave f _ _ h z)

    module _ {left : List ℕ} {A : Type 0} {q : Checked A} (ran : Ran (registry_steps by s r.finality.slot r.finality.finalized_checkpoint.epoch slashings (decode xs)) left (done q)) where
      -- one of the six steps over the registry is
      pub worked-refused : {ys zs : List ℕ} {p : Refusal} (raised : Raised) {answer : CloseAnswer} → q ≡ refused p → answer ≡ close_answer_for (refused p) f raised → LimitedWorked by s (state_now f xs slashings roots) ys zs answer
      worked-refused raised y e = stopped by s (state_now f xs slashings roots) raised (steps ∙ bind-refused _ (ran-by ran (ap done y))) e

      -- none is: an answer of number 0 with what justification gave
      pub worked-done : {a : A} {zs : List ℕ} {answer : CloseAnswer} → q ≡ value a → zs ≡ reset_slashings s r.finality.slot slashings → answer.refusal ≡ 0 → answer.finality ≡ r.finality → answer.raised ≡ r.raised → LimitedWorked by s (state_now f xs slashings roots) left zs answer
      unfolding bind
      worked-done y a number same flags =
          let w = ran-gave ran (ap done y) in
          worked by s _ (with_validators (decode left) (reset s (state_now r.finality xs slashings roots)))
          (steps ∙ rw w) number same (flags ∙ gave-raised f _ _ h z) (ran.held _ w) a

-- The opening put back where the steps are refused, and the slashings' reset beside the steps over the registry.
use mathlib.Core.Path.{◌≡◌, sym, ◌∙◌}
use mathlib.Core.List.{List}
use Prim.Native.Nat.{ℕ}
use Rattle.definitions.specs.declared.Settings.{Settings}
use Rattle.definitions.specs.declared.ActivationLimit.{ActivationLimit}
use Rattle.definitions.specs.declared.CloseAnswer.{CloseAnswer}
use Rattle.definitions.specs.Record.{BeaconState}
use Rattle.definitions.specs.Raised.{none_raised, raised_unless_refused}
use Rattle.definitions.specs.Refusals.{closing_buffer}
use Rattle.definitions.specs.Close.{limited_epoch}
use Rattle.registry_close.specs.Worked.{LimitedWorked}
use Rattle.registry_close.proofs.Worked.{code-refused, code-value}
use Rattle.close.specs.Worked.{StepsClosed}

module _ {by : ActivationLimit} {s : Settings} {before : BeaconState} {registry slashings : List ℕ} {r : CloseAnswer} (w : LimitedWorked by s before registry slashings r) where
  -- in an answer of that number and the opening's finality
  pub closed-refused : {opening lent lent_slashings : List ℕ} {answer : CloseAnswer} {xs ys : List ℕ} → (r.refusal ≡ 0 → ⊥) → answer.refusal ≡ r.refusal → (r.finality ≡ before.finality → answer.finality ≡ before.finality) → (r.raised ≡ none_raised → answer.raised ≡ none_raised) → xs ≡ opening → ys ≡ before.slashings → StepsClosed by s before opening lent lent_slashings xs ys answer
  unfolding closing_buffer raised_unless_refused
  closed-refused y number same none a b =
      let p = code-refused (limited_epoch by s before) w.code y in
      record {
        code = number ∙ w.code;
        finality = rw p.is (same (rw p.is at w.finality));
        raised = rw p.is (none (rw p.is at w.raised));
        registry = rw p.is a;
        slashings = rw p.is b;
      }

  pub closed-done : {opening lent lent_slashings ys : List ℕ} → r.refusal ≡ 0 → ys ≡ slashings → StepsClosed by s before opening lent lent_slashings registry ys r
  unfolding closing_buffer
  closed-done y e =
      let v = code-value (limited_epoch by s before) before (sym w.code ∙ y) in
      let h = w.held _ v in
      record { code = w.code; finality = w.finality; raised = w.raised; registry = rw v h.0; slashings = rw v (e ∙ h.1) }

use mathlib.Core.Path.{refl, ap}
use native.Mathlib.Omega.{arith}
use Rattle.definitions.specs.declared.CloseAnswer.{CloseAnswer}
use Rattle.justification.proofs.justification_step.Answered.{answer-refused, answer-given, tests-passed}
use Rattle.justification.proofs.justification_step.process_justification_and_finalization.Goals as goal

pub returns-then-answer-ne0 : goal.returns-then-answer-ne0
returns-then-answer-ne0 c = answer-refused _ _ _ _ c.process_justification_and_finalization-answer.ensures c.if-answer-ne0.true refl refl

pub finalizing_test-test-requires : goal.finalizing_test-test-requires
finalizing_test-test-requires c =
    let p = tests-passed _ _ _ _ _ (ap (λ (a : CloseAnswer). a.refusal) c.process_justification_and_finalization-answer.ensures) (omega (arith, c.if-answer-ne0.false)) in
    (p.epoch, p.finality)

pub returns : goal.returns
returns c = answer-given _ _ _ _ c.process_justification_and_finalization-answer.ensures (omega (arith, c.if-answer-ne0.false)) refl c.finalizing_test-test.ensures

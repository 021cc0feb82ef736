-- the tests have passed
use mathlib.Core.Path.{refl}
use Rattle.refusals.proofs.Answers.{then-answers, refused-answers}
use Rattle.definitions_clock.specs.Calls.{slot_at_time}
use Rattle.clock.proofs.Passed.{SecondPassed, second-went}
use Rattle.clock.proofs.slot_at_time.Goals.{In_ok-second_refusal}
use Rattle.clock.proofs.slot_at_time.Goals as goal

passed : (c : In_ok-second_refusal) → SecondPassed c.args.c c.args.second
passed c = second-went _ _ c.second_refusal.ensures c.in_ok-second_refusal.was

pub returns-in_err-second_refusal : goal.returns-in_err-second_refusal
unfolding slot_at_time
returns-in_err-second_refusal c = refused-answers _ c.second_refusal.ensures _ c.in_err-second_refusal.was c.from_residual.ensures

pub overflow_sub-result : goal.overflow_sub-result
overflow_sub-result c = (passed (goal.at.overflow_sub-result c).In_ok-second_refusal).begun

pub nonzero_div-result : goal.nonzero_div-result
nonzero_div-result c = (passed (goal.at.nonzero_div-result c).In_ok-second_refusal).clock.seconds

pub returns : goal.returns
unfolding slot_at_time
returns c = then-answers _ c.second_refusal.ensures c.in_ok-second_refusal.was refl

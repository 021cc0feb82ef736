-- the tests have passed
use mathlib.Core.Path.{ap}
use Rattle.definitions.specs.Checked.{value}
use Rattle.refusals.proofs.Answers.{then-answers, refused-answers}
use Rattle.definitions_clock.specs.Calls.{is_in_closing_window}
use Rattle.clock.proofs.Passed.{SecondPassed, second-went, last_by-rest}
use Rattle.clock.proofs.is_in_closing_window.Goals.{In_ok-second_refusal}
use Rattle.clock.proofs.is_in_closing_window.Goals as goal

passed : (c : In_ok-second_refusal) → SecondPassed c.args.c c.args.second
passed c = second-went _ _ c.second_refusal.ensures c.in_ok-second_refusal.was

pub returns-in_err-second_refusal : goal.returns-in_err-second_refusal
unfolding is_in_closing_window
returns-in_err-second_refusal c = refused-answers _ c.second_refusal.ensures _ c.in_err-second_refusal.was c.from_residual.ensures

pub overflow_sub-slot : goal.overflow_sub-slot
overflow_sub-slot c = (passed (goal.at.overflow_sub-slot c).In_ok-second_refusal).begun

pub nonzero_div-slot : goal.nonzero_div-slot
nonzero_div-slot c = (passed (goal.at.nonzero_div-slot c).In_ok-second_refusal).clock.seconds

pub nonzero_rem-result : goal.nonzero_rem-result
nonzero_rem-result c = (passed (goal.at.nonzero_rem-result c).In_ok-second_refusal).clock.slots

pub overflow_sub-result : goal.overflow_sub-result
overflow_sub-result c = (passed (goal.at.overflow_sub-result c).In_ok-second_refusal).clock.slots

pub returns : goal.returns
unfolding is_in_closing_window
returns c = then-answers _ c.second_refusal.ensures c.in_ok-second_refusal.was (ap value (last_by-rest _ _ (passed ((goal.at.returns c).In_ok-second_refusal)).clock.slots))

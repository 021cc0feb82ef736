use borrow.Author.Tests.{lt-ltb, le-ltb}
use Rattle.refusals.proofs.Answers.{after-passed, refused-answers}
use Rattle.definitions_clock.specs.Calls.{clock_tests, not_before_genesis, second_tests}
use Rattle.clock.proofs.second_refusal.Goals as goal

pub returns-in_err-clock_refusal : goal.returns-in_err-clock_refusal
unfolding second_tests
returns-in_err-clock_refusal c = refused-answers _ c.clock_refusal.ensures _ c.in_err-clock_refusal.was c.from_residual.ensures

pub returns-then-second-c : goal.returns-then-second-c
unfolding second_tests not_before_genesis
returns-then-second-c c = rw (after-passed (clock_tests _) (not_before_genesis _ _) c.clock_refusal.ensures c.in_ok-clock_refusal.was, lt-ltb _ _ c.if-second-c.true)

pub returns : goal.returns
unfolding second_tests not_before_genesis
returns c = rw (after-passed (clock_tests _) (not_before_genesis _ _) c.clock_refusal.ensures c.in_ok-clock_refusal.was, le-ltb _ _ c.if-second-c.false)

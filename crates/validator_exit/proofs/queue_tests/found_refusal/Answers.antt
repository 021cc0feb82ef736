use mathlib.Core.Path.{refl}
use Rattle.arithmetic.proofs.Laws.{next, passes-on}
use Rattle.validator_exit.specs.Found.{found_tests}
use Rattle.validator_exit.proofs.queue_tests.found_refusal.Goals as goal

pub returns-in_err-tested : goal.returns-in_err-tested
unfolding found_tests
returns-in_err-tested c = passes-on _ refl c.in_err-tested.was c.from_residual.ensures

pub returns : goal.returns
unfolding found_tests
returns c = next _ refl c.in_ok-tested.was c.queue_refusal.ensures

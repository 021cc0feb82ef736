use Rattle.definitions.specs.Refusals.{after_tests}
use Rattle.arithmetic.proofs.Laws.{next, passes-on}
use mathlib.Core.Path.{refl}
use Rattle.full_close.proofs.first_refusal.Goals as goal

pub returns-in_err-first : goal.returns-in_err-first
unfolding after_tests
returns-in_err-first c = passes-on _ refl c.in_err-first.was c.from_residual.ensures

pub returns : goal.returns
unfolding after_tests
returns c = next _ refl c.in_ok-first.was refl

use borrow.Author.Tests.{eq-eqb, ne_eqb}
use Rattle.refusals.proofs.Answers.{then-answers, refused-answers}
use Rattle.definitions_electra.specs.Document.Electra.Helpers.{get_max_effective_balance}
use Rattle.electra_registry.proofs.leaves.get_max_effective_balance.Goals as goal

pub returns-in_err-credential_tests : goal.returns-in_err-credential_tests
returns-in_err-credential_tests c = refused-answers _ c.credential_tests.ensures _ c.in_err-credential_tests.was c.from_residual.ensures

pub returns-then-compounding-eq1 : goal.returns-then-compounding-eq1
unfolding get_max_effective_balance
returns-then-compounding-eq1 c = then-answers _ c.credential_tests.ensures c.in_ok-credential_tests.was (rw (eq-eqb _ _ c.if-compounding-eq1.true))

pub returns : goal.returns
unfolding get_max_effective_balance
returns c = then-answers _ c.credential_tests.ensures c.in_ok-credential_tests.was (rw (ne_eqb _ _ c.if-compounding-eq1.false))

use Rattle.definitions_electra.specs.Refusals.{effective_balance_tests}
use Rattle.electra_refusals.proofs.step_tests.effective_balance_tests.Goals as goal

pub returns : goal.returns
unfolding effective_balance_tests
returns c = rw (c.settings_shaped.ensures, c.registry_shaped.ensures, c.good_electra.ensures, c.good_registry.ensures, c.good_compounding.ensures) at c.in_order.ensures

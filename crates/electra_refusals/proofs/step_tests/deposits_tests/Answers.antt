use Rattle.definitions_electra.specs.Refusals.{deposits_tests}
use Rattle.electra_refusals.proofs.step_tests.deposits_tests.Goals as goal

pub returns : goal.returns
unfolding deposits_tests
returns c = rw (c.settings_shaped.ensures, c.registry_shaped.ensures, c.deposits_shaped.ensures, c.keys_shaped.ensures, c.good_electra.ensures, c.is_small.ensures, c.is_small-2.ensures, c.good_registry.ensures, c.good_compounding.ensures, c.good_deposits.ensures) at c.in_order.ensures

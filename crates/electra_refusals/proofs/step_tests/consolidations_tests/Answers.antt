use Rattle.definitions_electra.specs.Refusals.{consolidations_tests}
use Rattle.electra_refusals.proofs.step_tests.consolidations_tests.Goals as goal

pub returns : goal.returns
unfolding consolidations_tests
returns c = rw (c.settings_shaped.ensures, c.registry_shaped.ensures, c.consolidations_shaped.ensures, c.indices_shaped.ensures, c.good_electra.ensures, c.is_small.ensures, c.good_registry.ensures) at c.in_order.ensures

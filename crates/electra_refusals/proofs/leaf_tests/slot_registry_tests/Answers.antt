use Rattle.definitions_electra.specs.Refusals.{slot_registry_tests}
use Rattle.electra_refusals.proofs.leaf_tests.slot_registry_tests.Goals as goal

pub returns : goal.returns
unfolding slot_registry_tests
returns c = rw (c.settings_shaped.ensures, c.registry_shaped.ensures, c.good_electra.ensures, c.is_small.ensures, c.good_registry.ensures) at c.in_order.ensures

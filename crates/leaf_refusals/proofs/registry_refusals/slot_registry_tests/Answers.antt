use Rattle.definitions.specs.LeafRefusals.{slot_registry_tests}
use Rattle.leaf_refusals.proofs.registry_refusals.slot_registry_tests.Goals as goal

pub returns : goal.returns
unfolding slot_registry_tests
returns c = rw (c.settings_shaped.ensures, c.registry_shaped.ensures, c.good_settings.ensures, c.is_small.ensures, c.good_registry.ensures) at c.in_order.ensures

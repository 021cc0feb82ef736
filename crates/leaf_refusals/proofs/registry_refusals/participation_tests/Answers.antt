use Rattle.definitions.specs.LeafRefusals.{participation_tests}
use Rattle.leaf_refusals.proofs.registry_refusals.participation_tests.Goals as goal

pub returns : goal.returns
unfolding participation_tests
returns c = rw (c.settings_shaped.ensures, c.registry_shaped.ensures, c.is_participation_epoch.ensures, c.good_settings.ensures, c.is_small.ensures, c.good_registry.ensures) at c.in_order.ensures

use Rattle.definitions_wait.specs.Wait.{wait_tests}
use Rattle.activation_wait.proofs.wait_tests.Goals as goal

pub returns : goal.returns
unfolding wait_tests
returns c = rw (c.settings_shaped.ensures, c.registry_shaped.ensures, c.good_settings.ensures, c.is_small.ensures, c.good_registry.ensures) at c.in_order.ensures

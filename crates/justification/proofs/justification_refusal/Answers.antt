use Rattle.definitions.specs.Refusals.{justification_tests}
use Rattle.justification.proofs.justification_refusal.Goals as goal

pub returns : goal.returns
unfolding justification_tests
returns c = rw (c.settings_shaped.ensures, c.roots_shaped.ensures, c.registry_shaped.ensures, c.good_settings.ensures, c.good_finality.ensures, c.good_registry.ensures) at c.in_order.ensures

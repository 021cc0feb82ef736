use Rattle.definitions.specs.Rules.{slashings_tests}
use Rattle.refusals.proofs.rules.Tests.{rules-tested}
use Rattle.slashings.proofs.slashings_tests.Goals as goal

pub returns : goal.returns
unfolding slashings_tests
returns c = rules-tested _ _ _ _ c.rules_refusal.ensures (rw (c.settings_shaped.ensures, c.registry_shaped.ensures, c.good_settings.ensures, c.is_small.ensures, c.good_registry.ensures) at c.in_order-by_settings.ensures)

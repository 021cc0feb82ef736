use Rattle.definitions.specs.Refusals.{registry_tests}
use Rattle.definitions.specs.Rules.{rewards_tests}
use Rattle.refusals.proofs.rules.Tests.{rules-tested}
use Rattle.rewards_step.proofs.rewards_tests.Goals as goal

pub returns : goal.returns
unfolding registry_tests rewards_tests
returns c = rules-tested _ _ _ _ c.rules_refusal.ensures c.registry_tests-by_settings.ensures

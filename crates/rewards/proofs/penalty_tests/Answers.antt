use Rattle.definitions.specs.LeafRefusals.{slot_entry_tests}
use Rattle.definitions.specs.Rules.{inactivity_penalty_tests}
use Rattle.refusals.proofs.rules.Tests.{rules-tested}
use Rattle.rewards.proofs.penalty_tests.Goals as goal

pub returns : goal.returns
unfolding inactivity_penalty_tests slot_entry_tests
returns c = rules-tested _ _ _ _ c.rules_refusal.ensures c.slot_entry_tests-by_settings.ensures

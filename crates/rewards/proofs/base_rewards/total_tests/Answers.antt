use Rattle.definitions.specs.LeafRefusals.{total_tests}
use Rattle.rewards.proofs.base_rewards.total_tests.Goals as goal

pub returns : goal.returns
unfolding total_tests
returns c = rw (c.settings_shaped.ensures, c.good_settings.ensures) at c.in_order.ensures

use Rattle.definitions.specs.LeafRefusals.{flag_deltas_tests}
use Rattle.rewards_step.proofs.flag_rewards.flag_deltas_tests.Goals as goal

pub returns : goal.returns
unfolding flag_deltas_tests
returns c = rw (c.settings_shaped.ensures, c.registry_shaped.ensures, c.good_settings.ensures, c.is_small.ensures, c.is_small-2.ensures, c.good_registry.ensures) at c.in_order.ensures

use Rattle.definitions.specs.LeafRefusals.{weigh_tests}
use Rattle.weighing.proofs.weigh_refusal.Goals as goal

pub returns : goal.returns
unfolding weigh_tests
returns c = rw (c.settings_shaped.ensures, c.roots_shaped.ensures, c.good_settings.ensures, c.good_finality.ensures) at c.in_order.ensures

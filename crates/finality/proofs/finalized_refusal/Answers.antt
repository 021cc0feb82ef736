use Rattle.definitions.specs.LeafRefusals.{finalized_tests}
use Rattle.finality.proofs.finalized_refusal.Goals as goal

pub returns : goal.returns
unfolding finalized_tests
returns c = rw (c.settings_shaped.ensures, c.good_settings.ensures, c.is_small.ensures, c.is_small-2.ensures) at c.in_order.ensures

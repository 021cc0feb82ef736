use Rattle.definitions.specs.LeafRefusals.{settings_tests}
use Rattle.epochs.proofs.settings_refusal.Goals as goal

pub returns : goal.returns
unfolding settings_tests
returns c = rw (c.settings_shaped.ensures, c.good_settings.ensures) at c.in_order.ensures

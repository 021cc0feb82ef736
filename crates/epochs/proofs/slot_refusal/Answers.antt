use Rattle.definitions.specs.LeafRefusals.{slot_tests}
use Rattle.epochs.proofs.slot_refusal.Goals as goal

pub returns : goal.returns
unfolding slot_tests
returns c = rw (c.settings_shaped.ensures, c.good_settings.ensures, c.is_small.ensures) at c.in_order.ensures

use Rattle.definitions.specs.LeafRefusals.{root_tests}
use Rattle.epochs.proofs.roots.root_refusal.Goals as goal

pub returns : goal.returns
unfolding root_tests
returns c = rw (← c.settings_shaped.ensures, ← c.roots_shaped.ensures, ← c.good_settings.ensures, ← c.is_small.ensures) c.in_order.ensures

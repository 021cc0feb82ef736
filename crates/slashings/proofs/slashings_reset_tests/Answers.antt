use Rattle.definitions.specs.Refusals.{slashings_reset_tests}
use Rattle.slashings.proofs.slashings_reset_tests.Goals as goal

pub returns : goal.returns
unfolding slashings_reset_tests
returns c = rw (c.settings_shaped.ensures, c.good_settings.ensures, c.is_small.ensures) at c.in_order.ensures

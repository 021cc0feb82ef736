use mathlib.Core.Path.{ap, ◌∙◌}
use Rattle.definitions.specs.Lists.{all}
use Rattle.definitions.specs.Refusals.{is_small, good_settings}
use Rattle.refusals.proofs.All.{fails, passes}
use mathlib.Core.Bool.{not}
use Rattle.refusals.proofs.good_settings.Goals as goal

pub returns-then-not-none_zero : goal.returns-then-not-none_zero
unfolding good_settings
returns-then-not-none_zero c = rw (fails c.none_zero.ensures (ap not c.if-not-none_zero.true))

pub returns : goal.returns
unfolding good_settings
returns c = rw (passes c.none_zero.ensures (ap not c.if-not-none_zero.false)) (c.all_below.ensures ∙ ap (all is_small) c.settings_numbers-numbers.ensures)

use borrow.Author.Tests.{eq-eqb, ne_eqb}
use Rattle.definitions.specs.Lists.{every}
use Rattle.definitions.specs.LeafRefusals.{participation_entry_tests}
use Rattle.definitions.specs.Refusals.{in_order}
use Rattle.leaf_refusals.proofs.Shape.{shape-refused}
use Rattle.leaf_refusals.proofs.participation_entry_tests.Goals as goal

pub returns-then-entry-ne10 : goal.returns-then-entry-ne10
unfolding participation_entry_tests
returns-then-entry-ne10 c = shape-refused _ _ _ 1 (ne_eqb _ _ c.if-entry-ne10.true)

pub returns : goal.returns
unfolding participation_entry_tests in_order every
returns c = rw (eq-eqb _ _ c.if-entry-ne10.false) (rw (c.settings_shaped.ensures, c.is_participation_epoch.ensures, c.good_settings.ensures, c.is_small.ensures, c.good_entry.ensures) at c.in_order.ensures)

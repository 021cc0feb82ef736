use Rattle.definitions.specs.Lists.{every}
use Rattle.definitions.specs.Refusals.{in_order}
use Rattle.definitions_close.specs.Calls.{lent}
use Rattle.store.specs.Called.{tests_with}
use Rattle.store.proofs.Passed.{no_room, grouped}
use Rattle.store.proofs.store_rules.call_tests.Goals as goal

pub returns-then-store-n : goal.returns-then-store-n
unfolding tests_with in_order every
returns-then-store-n c = let a = c.args in rw (no_room (lent a.store.now a.count) c.if-store-n.true)

pub returns : goal.returns
unfolding tests_with
returns c = grouped _ _ _ (rw (c.store_shaped.ensures, c.registry_shaped.ensures, c.fits_last.ensures, c.good_entries.ensures) at c.in_order.ensures)

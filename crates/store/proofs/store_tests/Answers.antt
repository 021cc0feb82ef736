use Rattle.definitions.specs.Lists.{every}
use Rattle.definitions.specs.Refusals.{in_order}
use Rattle.definitions_close.specs.Calls.{lent}
use Rattle.definitions_close.specs.Store.{store_tests}
use Rattle.store.proofs.Passed.{no_room}
use Rattle.store.proofs.store_tests.Goals as goal

pub returns-then-store-n : goal.returns-then-store-n
unfolding store_tests in_order every
returns-then-store-n c = let a = c.args in rw (no_room (lent a.store.now a.count) c.if-store-n.true)

pub returns : goal.returns
unfolding store_tests
returns c = rw (c.store_shaped.ensures, c.good_entries.ensures) at c.in_order.ensures

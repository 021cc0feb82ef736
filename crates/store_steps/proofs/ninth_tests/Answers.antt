use Rattle.definitions.specs.Lists.{every}
use Rattle.definitions.specs.Refusals.{in_order}
use Rattle.definitions_close.specs.Calls.{lent}
use Rattle.store.proofs.Passed.{no_room}
use Rattle.store_steps.specs.Called.{ninth_tests_with}
use Rattle.store_steps.proofs.ninth_tests.Goals as goal

pub returns-then-store-n : goal.returns-then-store-n
unfolding ninth_tests_with in_order every
returns-then-store-n c = let a = c.args in rw (no_room (lent a.store.now a.count) c.if-store-n.true)

pub returns : goal.returns
unfolding ninth_tests_with
returns c = rw (c.store_shaped.ensures, c.registry_shaped.ensures, c.orders_shaped.ensures, c.good_entries.ensures, c.is_small.ensures) at c.in_order.ensures

use borrow.Author.Tests.{eq-eqb, ne_eqb, le-ltb, lt-ltb}
use Rattle.definitions_close.specs.Orders.{appended, take_order}
use Rattle.refusals.proofs.All.{fails, passes}
use mathlib.Core.Path.{ap}
use mathlib.Core.Bool.{not}
use Rattle.orders.proofs.take_order.Goals as goal

pub returns-then-done-eq9 : goal.returns-then-done-eq9
unfolding take_order
returns-then-done-eq9 c = rw (eq-eqb _ _ c.if-done-eq9.true)

pub returns-then-not-takes_orders : goal.returns-then-not-takes_orders
unfolding take_order
returns-then-not-takes_orders c = rw (ne_eqb _ _ c.if-done-eq9.false, fails c.takes_orders.ensures (ap not c.if-not-takes_orders.true), c.turned_away.ensures)

pub returns-then-not-orders_shaped : goal.returns-then-not-orders_shaped
unfolding take_order
returns-then-not-orders_shaped c = rw (ne_eqb _ _ c.if-done-eq9.false, passes c.takes_orders.ensures (ap not c.if-not-takes_orders.false), fails c.orders_shaped.ensures (ap not c.if-not-orders_shaped.true), c.turned_away-then-not-orders_shaped.ensures)

pub returns-then-room-count : goal.returns-then-room-count
unfolding take_order
returns-then-room-count c = rw (ne_eqb _ _ c.if-done-eq9.false, passes c.takes_orders.ensures (ap not c.if-not-takes_orders.false), passes c.orders_shaped.ensures (ap not c.if-not-orders_shaped.false), le-ltb _ _ c.if-room-count.true, c.turned_away-then-room-count.ensures)

pub returns : goal.returns
unfolding take_order appended
returns c = rw (ne_eqb _ _ c.if-done-eq9.false, passes c.takes_orders.ensures (ap not c.if-not-takes_orders.false), passes c.orders_shaped.ensures (ap not c.if-not-orders_shaped.false), lt-ltb _ _ c.if-room-count.false, c.put_order.ensures)

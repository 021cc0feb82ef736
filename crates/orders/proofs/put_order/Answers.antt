use lib.ListN.{length-set}
use native.Mathlib.Omega.{arith}
use Rattle.orders.proofs.put_order.Goals as goal

pub bounds-orders-at-2 : goal.bounds-orders-at-2
bounds-orders-at-2 c = simp length-set (omega arith)

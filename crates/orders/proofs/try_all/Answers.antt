use Rattle.orders.proofs.Tried.{trying_none, trying_exit, trying_refused, trying_all}
use native.Mathlib.Omega.{arith}
use Rattle.orders.proofs.try_all.Goals as goal
use Rattle.orders.proofs.try_all.Goals.{in-Ok, in-Err}

pub loop-i-init : goal.loop-i-init
loop-i-init c = let a = c.requires in trying_none a.registry_len.0 a.first_value

pub try_order-requires : goal.try_order-requires
try_order-requires c = let g = c.loop-i.invariant in let a = c.requires in record { registry_len = (g.long, a.registry_len.1); queue_value = g.queue }

pub loop-i-preserved : goal.loop-i-preserved
loop-i-preserved c =
    let g = c.loop-i.invariant in
    let l = c.loop-i-test.true in
    let fits = c.requires.count_bound.1 in
    elim c.match-try_order.branch [
      | in-Ok w ↦ rw (w.answers-is, w.queue-is) (trying_exit g l fits (omega arith) c.try_order.ensures w.in-Ok.is)
      | in-Err w ↦ rw (w.answers-is, w.queue-is) (trying_refused g l fits (omega arith) c.try_order.ensures w.in-Err.is w.number.ensures)
    ]

pub returns : goal.returns
returns c = trying_all c.loop-i.invariant c.loop-i-test.false

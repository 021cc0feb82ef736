use Prim.Native.Nat.{◌-◌}
use Rattle.orders.specs.Tried.{order_by}
use Rattle.orders.proofs.Tried.{Trying}
use Rattle.orders.proofs.try_all.Given as goal

abbrev pub invariant-loop-i : goal.invariant-loop-i
invariant-loop-i l =
    Trying (order_by l.epoch l.period l.least l.limit l.delay) l.n l.initial.registry l.orders l.initial.answers l.count l.i l.registry l.answers l.queue

abbrev pub decreases-loop-i : goal.decreases-loop-i
decreases-loop-i l =
    l.count - l.i

use Prim.Native.Nat.{◌≤◌}
use Rattle.definitions_close.specs.Store.{entries_from}
use Rattle.store.proofs.Last.{Looking}
use Rattle.store.proofs.find_entry.Given as goal

abbrev pub invariant-loop-left : goal.invariant-loop-left
invariant-loop-left l = Looking l.epoch (entries_from l.n l.store) l.left × (l.left ≤ l.n)

abbrev pub decreases-loop-left : goal.decreases-loop-left
decreases-loop-left l = l.left

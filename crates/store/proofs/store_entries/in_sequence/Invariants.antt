use Prim.Native.Nat.{◌-◌}
use Rattle.definitions_close.specs.Store.{entries_from}
use Rattle.store.proofs.store_entries.Sequence.{Following}
use Rattle.store.proofs.store_entries.in_sequence.Given as goal

abbrev pub invariant-loop-i : goal.invariant-loop-i
invariant-loop-i l = Following (entries_from l.n l.store) l.i

abbrev pub decreases-loop-i : goal.decreases-loop-i
decreases-loop-i l = l.n - l.i

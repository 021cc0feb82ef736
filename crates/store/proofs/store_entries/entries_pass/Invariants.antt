use Prim.Native.Nat.{◌-◌}
use Rattle.definitions_close.specs.Store.{entries_from}
use Rattle.refusals.proofs.All.{Passed}
use Rattle.store.specs.Answers.{rules_pass}
use Rattle.store.proofs.store_entries.entries_pass.Given as goal

abbrev pub invariant-loop-i : goal.invariant-loop-i
invariant-loop-i l = Passed (λ e. rules_pass l.test e.rules) (entries_from l.n l.store) l.i

abbrev pub decreases-loop-i : goal.decreases-loop-i
decreases-loop-i l = l.n - l.i

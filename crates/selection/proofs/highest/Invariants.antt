use Rattle.selection.proofs.Kept.{Seeking}
use Rattle.selection.proofs.highest.Given as goal

abbrev pub invariant-loop-j : goal.invariant-loop-j
invariant-loop-j l = Seeking l.kept l.p l.j

use Rattle.selection.proofs.Kept.{Counting}
use Rattle.selection.proofs.count_under.Given as goal

abbrev pub invariant-loop-epoch : goal.invariant-loop-epoch
invariant-loop-epoch l = Counting l.bound l.kept l.epoch-index l.count

use lib.ListN.{length}
use Rattle.selection.proofs.Picking.{Picking}
use Rattle.selection.proofs.pick.Given as goal

abbrev pub invariant-loop-epoch : goal.invariant-loop-epoch
invariant-loop-epoch l = Picking l.kept (length l.initial.first) l.epoch-index l.first l.p

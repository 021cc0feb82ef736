use Rattle.selection.proofs.Kept.{counting_none, counting_yes, counting_no, counting_all}
use Rattle.selection.proofs.count_under.Goals.{then-epoch-bound, else-epoch-bound}
use Rattle.selection.proofs.count_under.Goals as goal

pub loop-epoch-init : goal.loop-epoch-init
loop-epoch-init c = counting_none _ _

pub loop-epoch-preserved : goal.loop-epoch-preserved
loop-epoch-preserved c =
    elim c.if-epoch-bound.branch [
      | then-epoch-bound w ↦ rw w.count-is (counting_yes c.loop-epoch.invariant c.loop-epoch-test.true w.if-epoch-bound.true)
      | else-epoch-bound w ↦ rw w.count-is (counting_no c.loop-epoch.invariant c.loop-epoch-test.true w.if-epoch-bound.false)
    ]

pub returns : goal.returns
returns c = counting_all c.loop-epoch.invariant c.loop-epoch-test.false

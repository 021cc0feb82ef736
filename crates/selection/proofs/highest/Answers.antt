use Rattle.selection.proofs.Kept.{seeking_none, seeking_new, seeking_old, seeking_all}
use Rattle.selection.proofs.highest.Goals.{then-kept-p, else-kept-p}
use Rattle.selection.proofs.highest.Goals as goal

pub loop-j-init : goal.loop-j-init
loop-j-init c = seeking_none _ c.requires

pub loop-j-preserved : goal.loop-j-preserved
loop-j-preserved c =
    elim c.if-kept-p.branch [
      | then-kept-p w ↦ rw w.p-is (seeking_new c.loop-j.invariant c.loop-j-test.true w.if-kept-p.true)
      | else-kept-p w ↦ rw w.p-is (seeking_old c.loop-j.invariant c.loop-j-test.true w.if-kept-p.false)
    ]

pub returns : goal.returns
returns c = seeking_all c.loop-j.invariant c.loop-j-test.false

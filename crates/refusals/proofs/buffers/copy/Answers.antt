use Prim.Native.Nat.{◌-◌}
use Rattle.laws.proofs.Loops.Copied.{copied_none, copied_more, copied_all}
use Rattle.refusals.proofs.buffers.copy.Goals as goal

pub loop-i-init : goal.loop-i-init
loop-i-init c = copied_none c.requires

pub loop-i-preserved : goal.loop-i-preserved
loop-i-preserved c = copied_more c.loop-i.invariant c.loop-i-test.true

pub returns : goal.returns
returns c = copied_all c.loop-i.invariant c.loop-i-test.false

use Rattle.electra_amounts.proofs.Spreading.{spreading_none, spreading_more, spreading_all}
use Rattle.electra_amounts.proofs.spread.Goals as goal

pub loop-k-preserved : goal.loop-k-preserved
loop-k-preserved c = spreading_more c.loop-k.invariant c.loop-k-test.true c.spread_value-x.ensures

pub loop-k-init : goal.loop-k-init
loop-k-init c = spreading_none _

pub returns : goal.returns
returns c = spreading_all c.loop-k.invariant c.loop-k-test.false

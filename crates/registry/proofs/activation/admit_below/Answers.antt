use Rattle.registry.proofs.activation.Admitting.{admitting_none, admitting_ten, admitting_more, admitting_all}
use Rattle.registry.proofs.activation.admit_below.Goals as goal

pub loop-i-init : goal.loop-i-init
loop-i-init c = admitting_none _ _ _ _ c.requires.0 c.requires.1

pub admit_entry-left-requires : goal.admit_entry-left-requires
admit_entry-left-requires c = admitting_ten c.loop-i.invariant c.loop-i-test.true

pub loop-i-preserved : goal.loop-i-preserved
loop-i-preserved c = admitting_more c.loop-i.invariant c.loop-i-test.true c.admit_entry-left.ensures.after c.admit_entry-left.ensures.value

pub returns : goal.returns
returns c = admitting_all c.loop-i.invariant c.loop-i-test.false

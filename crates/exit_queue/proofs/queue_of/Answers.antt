use native.Mathlib.Omega.{arith}
use Rattle.exit_queue.proofs.QueueOf.{tracking_none, tracking_few, tracking_more, tracking_all}
use Rattle.exit_queue.proofs.queue_of.Goals as goal

pub loop-i-init : goal.loop-i-init
loop-i-init c = tracking_none c.requires

pub loop-i-preserved : goal.loop-i-preserved
loop-i-preserved c = tracking_more c.loop-i.invariant c.loop-i-test.true c.exited-queue.ensures

pub returns : goal.returns
returns c = tracking_all c.loop-i.invariant c.loop-i-test.false

pub exited-queue-requires : goal.exited-queue-requires
exited-queue-requires c = omega (arith, tracking_few c.loop-i.invariant)

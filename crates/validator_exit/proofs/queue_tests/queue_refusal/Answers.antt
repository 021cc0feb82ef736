use Rattle.refusals.proofs.All.{fails, passes}
use mathlib.Core.Path.{ap}
use mathlib.Core.Bool.{not}
use Rattle.validator_exit.specs.Found.{pair_test}
use Rattle.validator_exit.proofs.queue_tests.queue_refusal.Goals as goal

pub returns-then-not-same_queue : goal.returns-then-not-same_queue
unfolding pair_test
returns-then-not-same_queue c = rw (fails c.same_queue.ensures (ap not c.if-not-same_queue.true))

pub returns : goal.returns
unfolding pair_test
returns c = rw (passes c.same_queue.ensures (ap not c.if-not-same_queue.false))

use borrow.Author.Tests.{le-leb, lt-leb}
use Rattle.exit_queue.specs.Queue.{next_epoch}
use Rattle.exit_queue.proofs.next_epoch.Goals as goal

pub returns-then-queue-limit : goal.returns-then-queue-limit
unfolding next_epoch
returns-then-queue-limit c = rw (lt-leb _ _ c.if-queue-limit.true)

pub returns : goal.returns
unfolding next_epoch
returns c = rw (le-leb _ _ c.if-queue-limit.false) c.add64.ensures

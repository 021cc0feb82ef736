use borrow.Author.Tests.{lt-ltb, le-ltb}
use Rattle.exit_queue.specs.Queue.{start_pair}
use Rattle.exit_queue.proofs.start_pair.Goals as goal

pub returns-then-queue-least : goal.returns-then-queue-least
unfolding start_pair
returns-then-queue-least c = rw (lt-ltb _ _ c.if-queue-least.true)

pub returns : goal.returns
unfolding start_pair
returns c = rw (le-ltb _ _ c.if-queue-least.false)

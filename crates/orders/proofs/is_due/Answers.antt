use borrow.Author.Tests.{le-leb, lt-leb}
use Rattle.orders.proofs.Tried.{due}
use Rattle.orders.proofs.is_due.Goals as goal

pub returns-then-epoch-start : goal.returns-then-epoch-start
returns-then-epoch-start c = rw (lt-leb _ _ c.if-epoch-start.true)

pub returns : goal.returns
returns c = rw (le-leb _ _ c.if-epoch-start.false) (due _ _ _ c.requires)

use borrow.Author.Tests.{le-leb, lt-leb}
use Rattle.entries.proofs.is_active.Goals as goal

pub returns-then-epoch-activation_epoch : goal.returns-then-epoch-activation_epoch
returns-then-epoch-activation_epoch c = rw (lt-leb _ _ c.if-epoch-activation_epoch.true)

pub returns : goal.returns
returns c = rw (le-leb _ _ c.if-epoch-activation_epoch.false)

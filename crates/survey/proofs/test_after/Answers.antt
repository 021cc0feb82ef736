use Rattle.std.proofs.Common.{le-leb}
use borrow.Author.Tests.{lt-leb}
use Rattle.definitions.specs.Lists.{every}
use Rattle.survey.proofs.test_after.Goals as goal

pub returns-then-slashed-gt1 : goal.returns-then-slashed-gt1
unfolding every
returns-then-slashed-gt1 c = rw (lt-leb _ _ c.if-slashed-gt1.true)

pub returns-then-previous-gt255 : goal.returns-then-previous-gt255
unfolding every
returns-then-previous-gt255 c = rw (le-leb _ _ c.if-slashed-gt1.false, lt-leb _ _ c.if-previous-gt255.true)

pub returns-then-current-gt255 : goal.returns-then-current-gt255
unfolding every
returns-then-current-gt255 c = rw (le-leb _ _ c.if-slashed-gt1.false, le-leb _ _ c.if-previous-gt255.false, lt-leb _ _ c.if-current-gt255.true)

pub returns : goal.returns
unfolding every
returns c = rw (le-leb _ _ c.if-slashed-gt1.false, le-leb _ _ c.if-previous-gt255.false, le-leb _ _ c.if-current-gt255.false)

use borrow.Author.Tests.{le-leb, lt-leb}
use Rattle.definitions.specs.Lists.{every}
use Rattle.laws.proofs.Tests.{and_true}
use Rattle.electra_refusals.proofs.good_deposit.Goals as goal

pub returns-then-compounding-gt1 : goal.returns-then-compounding-gt1
unfolding every
returns-then-compounding-gt1 c = rw (lt-leb _ _ c.if-compounding-gt1.true)

pub returns-then-valid-gt1 : goal.returns-then-valid-gt1
unfolding every
returns-then-valid-gt1 c = rw (le-leb _ _ c.if-compounding-gt1.false, lt-leb _ _ c.if-valid-gt1.true)

pub returns : goal.returns
unfolding every
returns c = rw (le-leb _ _ c.if-compounding-gt1.false, le-leb _ _ c.if-valid-gt1.false, and_true _) c.is_small.ensures

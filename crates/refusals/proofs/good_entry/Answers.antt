use borrow.Author.Tests.{le-leb, lt-leb}
use Rattle.definitions.specs.Lists.{every}
use Rattle.definitions.specs.Refusals.{good_validator}
use Rattle.laws.proofs.Tests.{and_true}
use Rattle.refusals.proofs.good_entry.Goals as goal

pub returns-then-entry-gt1 : goal.returns-then-entry-gt1
unfolding good_validator every
returns-then-entry-gt1 c = rw (lt-leb _ _ c.if-entry-gt1.true)

pub returns-then-entry-gt255 : goal.returns-then-entry-gt255
unfolding good_validator every
returns-then-entry-gt255 c = rw (le-leb _ _ c.if-entry-gt1.false, lt-leb _ _ c.if-entry-gt255.true)

pub returns : goal.returns
unfolding good_validator every
returns c = rw (le-leb _ _ c.if-entry-gt1.false, le-leb _ _ c.if-entry-gt255.false) (simp and_true)

use borrow.Author.Tests.{le-leb, lt-leb}
use Rattle.definitions_close.specs.FinalizingTest.{finalizing_test}
use Rattle.refusals.proofs.Laws.{good-finality}
use Rattle.finality.proofs.finalizing.finalizing_test.Goals as goal

pub returns-then-epoch-le1 : goal.returns-then-epoch-le1
unfolding finalizing_test
returns-then-epoch-le1 c = rw (← c.current_epoch-epoch.ensures, le-leb _ _ c.if-epoch-le1.true)

pub last_test-requires : goal.last_test-requires
last_test-requires c = let g = good-finality _ c.requires.1 in (g.previous, g.current)

pub returns : goal.returns
unfolding finalizing_test
returns c = rw (← c.current_epoch-epoch.ensures, lt-leb _ _ c.if-epoch-le1.false) c.last_test.ensures

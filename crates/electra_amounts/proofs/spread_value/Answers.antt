use borrow.Author.Tests.{lt-ltb, le-ltb}
use Rattle.electra_amounts.proofs.spread_value.Goals as goal

pub returns-then-column-lt9 : goal.returns-then-column-lt9
returns-then-column-lt9 c = rw (lt-ltb _ _ c.if-column-lt9.true)

pub returns : goal.returns
returns c = rw (le-ltb _ _ c.if-column-lt9.false)

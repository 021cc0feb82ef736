use borrow.Author.Tests.{lt-ltb, le-ltb}
use Rattle.rates.proofs.reward_balances.lowered_by.Goals as goal

pub returns-then-balance-penalty : goal.returns-then-balance-penalty
returns-then-balance-penalty c = rw (lt-ltb _ _ c.if-balance-penalty.true)

pub returns : goal.returns
returns c = rw (le-ltb _ _ c.if-balance-penalty.false)

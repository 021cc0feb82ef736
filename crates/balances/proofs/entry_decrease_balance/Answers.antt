use borrow.Author.Tests.{lt-ltb, le-ltb}
use Rattle.definitions.specs.Document.Phase0.Helpers.{decrease_balance}
use Rattle.laws.proofs.Encode.{ten}
use Rattle.balances.proofs.entry_decrease_balance.Goals as goal

pub returns-then-balance-delta : goal.returns-then-balance-delta
unfolding decrease_balance
returns-then-balance-delta c = rw (lt-ltb _ _ c.if-balance-delta.true, ten c.args.entry.now c.requires)

pub returns : goal.returns
unfolding decrease_balance
returns c = rw (le-ltb _ _ c.if-balance-delta.false, ten c.args.entry.now c.requires)

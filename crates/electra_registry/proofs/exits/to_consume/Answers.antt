use borrow.Author.Tests.{lt-ltb, le-ltb}
use Rattle.electra_registry.proofs.exits.to_consume.Goals as goal

pub returns-then-churn-earliest : goal.returns-then-churn-earliest
returns-then-churn-earliest c = rw (lt-ltb _ _ c.if-churn-earliest.true)

pub returns : goal.returns
returns c = rw (le-ltb _ _ c.if-churn-earliest.false)

use Rattle.definitions.specs.Lists.{every}
use Rattle.laws.proofs.Tests.{and_true}
use Rattle.refusals.proofs.rules.good_limit.Goals as goal

pub returns-in-Churn : goal.returns-in-Churn
unfolding every
returns-in-Churn c = rw c.in-Churn.is

pub returns-in-AtMost : goal.returns-in-AtMost
unfolding every
returns-in-AtMost c = rw (c.in-AtMost.is, and_true _) c.is_small.ensures

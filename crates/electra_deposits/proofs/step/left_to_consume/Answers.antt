use Rattle.electra_deposits.proofs.step.Run.{left-reached, left-none}
use Rattle.electra_deposits.proofs.step.left_to_consume.Goals as goal

pub returns-then-reached : goal.returns-then-reached
returns-then-reached c = left-reached _ _ c.if-reached.true c.sub64.ensures

pub returns : goal.returns
returns c = left-none _ _ c.if-reached.false

use Rattle.electra_deposits.proofs.closing.Written.{adds_none, adds_one}
use Rattle.electra_deposits.proofs.closing.add_if.Goals as goal

pub returns-then-on : goal.returns-then-on
returns-then-on c = adds_one _ _ _ c.if-on.true c.write_deposit.ensures

pub returns : goal.returns
returns c = adds_none _ _ _ c.if-on.false

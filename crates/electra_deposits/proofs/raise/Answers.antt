use Rattle.electra_deposits.proofs.Alone.{raised-none, raised-one}
use Rattle.electra_deposits.proofs.raise.Goals as goal

pub returns-then-n-d : goal.returns-then-n-d
returns-then-n-d c = raised-none _ _ c.requires c.if-n-d.true

pub returns : goal.returns
returns c = raised-one _ _ c.requires c.if-n-d.false c.entry_increase_balance.ensures

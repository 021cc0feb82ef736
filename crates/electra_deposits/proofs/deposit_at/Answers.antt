use mathlib.Core.Path.{sym}
use Rattle.laws_electra.proofs.Deposits.{deposit-at}
use Rattle.electra_deposits.proofs.deposit_at.Goals as goal

pub returns : goal.returns
returns c = sym (deposit-at _ _ c.requires)

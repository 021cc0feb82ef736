use lib.Dec.{ltb}
use Rattle.electra_deposits.proofs.Alone.{tested-none, tested-withdrawable}
use Rattle.electra_deposits.proofs.withdrawn_at.Goals as goal

pub returns-then-n-key : goal.returns-then-n-key
returns-then-n-key c = tested-none _ _ c.requires (λ v. ltb v.withdrawable_epoch c.args.next_epoch) c.if-n-key.true

pub returns : goal.returns
returns c = tested-withdrawable _ _ c.requires c.if-n-key.false _

use lib.Dec.{ltb}
use Rattle.definitions.specs.Record.{FAR_FUTURE_EPOCH}
use Rattle.electra_deposits.proofs.Alone.{tested-none, tested-exit}
use Rattle.electra_deposits.proofs.exited_at.Goals as goal

pub returns-then-n-key : goal.returns-then-n-key
returns-then-n-key c = tested-none _ _ c.requires (λ v. ltb v.exit_epoch FAR_FUTURE_EPOCH) c.if-n-key.true

pub returns : goal.returns
returns c = tested-exit _ _ c.requires c.if-n-key.false

use Rattle.electra_deposits.proofs.closing.Over.{front_copied}
use Rattle.electra_deposits.proofs.closing.copy_front.Goals as goal

pub returns : goal.returns
returns c = front_copied _ _ c.copy.ensures

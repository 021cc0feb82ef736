use Rattle.electra_deposits.proofs.closing.Written.{is-withdrawn, is-exiting}
use Rattle.electra_deposits.proofs.closing.is_postponed.Goals as goal

pub returns-then-withdrawn_at : goal.returns-then-withdrawn_at
returns-then-withdrawn_at c = is-withdrawn _ _ _ c.requires c.withdrawn_at.ensures c.if-withdrawn_at.true

pub returns : goal.returns
returns c = is-exiting _ _ _ c.requires c.withdrawn_at.ensures c.if-withdrawn_at.false c.exited_at.ensures

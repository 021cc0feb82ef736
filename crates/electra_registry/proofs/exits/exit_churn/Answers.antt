use Rattle.electra_registry.proofs.Turns.{churn-none, churn-further, churn-fits}
use Rattle.electra_registry.proofs.exits.exit_churn.Goals as goal

pub returns-then-limit-eq0 : goal.returns-then-limit-eq0
returns-then-limit-eq0 c = churn-none _ _ _ _ c.if-limit-eq0.true

pub returns-then-available-balance : goal.returns-then-available-balance
returns-then-available-balance c = churn-further _ _ _ _ c.if-limit-eq0.false c.max-earliest.ensures c.to_consume-available.ensures c.if-available-balance.true c.further_epochs.ensures

pub returns : goal.returns
returns c = churn-fits _ _ _ _ c.if-limit-eq0.false c.max-earliest.ensures c.to_consume-available.ensures c.if-available-balance.false

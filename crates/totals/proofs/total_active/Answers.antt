use Rattle.totals.proofs.WithRaised.{says-balance}
use Rattle.totals.proofs.total_active.Goals as goal

pub returns : goal.returns
returns c = says-balance _ _ c.active_total.ensures c.balance_of.ensures

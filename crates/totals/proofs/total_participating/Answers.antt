use Rattle.totals.proofs.WithRaised.{says-balance}
use Rattle.totals.proofs.total_participating.Goals as goal

pub returns : goal.returns
returns c = says-balance _ _ c.participating_total.ensures c.balance_of.ensures

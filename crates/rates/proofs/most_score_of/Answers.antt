use Rattle.rates.proofs.Charged.{most-none, most-some}
use Rattle.rates.proofs.most_score_of.Goals as goal

pub returns-then-balance-eq0 : goal.returns-then-balance-eq0
returns-then-balance-eq0 c = most-none c.if-balance-eq0.true

pub returns : goal.returns
returns c = most-some c.if-balance-eq0.false

use Rattle.arithmetic.proofs.Laws.{next, passes-on}
use Rattle.rates.proofs.base_of.Goals as goal

pub returns-in_err-reward : goal.returns-in_err-reward
returns-in_err-reward c = passes-on _ c.requires.per_increment c.in_err-reward.was c.from_residual.ensures

pub returns : goal.returns
returns c = next _ c.requires.per_increment c.in_ok-reward.was c.mul64.ensures

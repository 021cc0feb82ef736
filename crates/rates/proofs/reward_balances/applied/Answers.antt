use mathlib.Core.Path.{ap}
use Rattle.arithmetic.proofs.Laws.{next, passes-on}
use Rattle.definitions.specs.Checked.{value}
use Rattle.rates.specs.Balances.{applied_balance}
use Rattle.rates.proofs.reward_balances.applied.Goals as goal

pub returns-in_err-raised : goal.returns-in_err-raised
unfolding applied_balance
returns-in_err-raised c = passes-on _ c.add64.ensures c.in_err-raised.was c.from_residual.ensures

pub returns : goal.returns
unfolding applied_balance
returns c = next _ c.add64.ensures c.in_ok-raised.was (ap value c.lowered_by-lowered.ensures)

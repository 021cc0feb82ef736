use Rattle.totals.proofs.WithRaised.{balance_given, balance-refused}
use Rattle.totals.proofs.balance_of.Goals as goal

pub returns-in_err-total : goal.returns-in_err-total
returns-in_err-total c = balance-refused c.in_err-total.was c.from_residual.ensures

pub returns : goal.returns
returns c = balance_given c.in_ok-total.was

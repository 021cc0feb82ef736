use mathlib.Core.Path.{ap}
use native.Mathlib.Omega.{arith}
use Rattle.definitions.specs.Checked.{value}
use Rattle.arithmetic.proofs.Laws.{next, passes-on}
use Rattle.slashings.specs.Adjusted.{adjusted_balance}
use Rattle.slashings.proofs.adjusted_balance.Goals as goal

pub returns-in_err-slashed : goal.returns-in_err-slashed
unfolding adjusted_balance
returns-in_err-slashed c = passes-on _ c.slashed_balance.ensures c.in_err-slashed.was c.from_residual.ensures

pub returns-in_err-product : goal.returns-in_err-product
unfolding adjusted_balance
returns-in_err-product c = next _ c.slashed_balance.ensures c.in_ok-slashed.was (passes-on _ c.mul64.ensures c.in_err-product.was c.from_residual-in_err-product.ensures)

pub returns : goal.returns
unfolding adjusted_balance
returns c = next _ c.slashed_balance.ensures c.in_ok-slashed.was (next _ c.mul64.ensures c.in_ok-product.was (ap value (omega (arith, c.min-adjusted.ensures))))

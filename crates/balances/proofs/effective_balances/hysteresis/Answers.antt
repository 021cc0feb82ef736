use mathlib.Core.Path.{refl}
use Rattle.arithmetic.proofs.Laws.{next, passes-on}
use Rattle.balances.specs.Thresholds.{thresholds_of}
use Rattle.balances.proofs.effective_balances.hysteresis.Goals as goal

pub returns-in_err-downward : goal.returns-in_err-downward
unfolding thresholds_of
returns-in_err-downward c = passes-on _ c.mul64.ensures c.in_err-downward.was c.from_residual.ensures

pub returns-in_err-upward : goal.returns-in_err-upward
unfolding thresholds_of
returns-in_err-upward c = next _ c.mul64.ensures c.in_ok-downward.was (passes-on _ c.mul64-2.ensures c.in_err-upward.was c.from_residual-in_err-upward.ensures)

pub returns : goal.returns
unfolding thresholds_of
returns c = next _ c.mul64.ensures c.in_ok-downward.was (next _ c.mul64-2.ensures c.in_ok-upward.was refl)

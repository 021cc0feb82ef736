use mathlib.Core.Path.{refl}
use Rattle.definitions.specs.Checked.{fold_checked}
use Rattle.arithmetic.proofs.Laws.{next, passes-on}
use Rattle.rates.proofs.reward_balances.all_applied.Goals as goal

pub returns-in_err-first : goal.returns-in_err-first
unfolding fold_checked
returns-in_err-first c = passes-on _ c.applied.ensures c.in_err-first.was c.from_residual.ensures

pub returns-in_err-second : goal.returns-in_err-second
unfolding fold_checked
returns-in_err-second c = next _ c.applied.ensures c.in_ok-first.was (passes-on _ c.applied-2.ensures c.in_err-second.was c.from_residual-in_err-second.ensures)

pub returns-in_err-third : goal.returns-in_err-third
unfolding fold_checked
returns-in_err-third c = next _ c.applied.ensures c.in_ok-first.was (next _ c.applied-2.ensures c.in_ok-second.was (passes-on _ c.applied-3.ensures c.in_err-third.was c.from_residual-in_err-third.ensures))

pub returns-in_err-fourth : goal.returns-in_err-fourth
unfolding fold_checked
returns-in_err-fourth c = next _ c.applied.ensures c.in_ok-first.was (next _ c.applied-2.ensures c.in_ok-second.was (next _ c.applied-3.ensures c.in_ok-third.was (passes-on _ c.applied-4.ensures c.in_err-fourth.was c.from_residual-in_err-fourth.ensures)))

pub returns : goal.returns
unfolding fold_checked
returns c = next _ c.applied.ensures c.in_ok-first.was (next _ c.applied-2.ensures c.in_ok-second.was (next _ c.applied-3.ensures c.in_ok-third.was (next _ c.applied-4.ensures c.in_ok-fourth.was refl)))

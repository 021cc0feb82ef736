use mathlib.Core.Path.{refl}
use Rattle.arithmetic.proofs.Laws.{next, passes-on}
use Rattle.rates.specs.Balances.{four_of}
use Rattle.rates.proofs.reward_balances.four_pairs.Goals as goal

pub returns-in_err-a : goal.returns-in_err-a
unfolding four_of
returns-in_err-a c = passes-on _ c.flag_deltas.ensures c.in_err-a.was c.from_residual.ensures

pub returns-in_err-b : goal.returns-in_err-b
unfolding four_of
returns-in_err-b c = next _ c.flag_deltas.ensures c.in_ok-a.was (passes-on _ c.flag_deltas-2.ensures c.in_err-b.was c.from_residual-in_err-b.ensures)

pub returns-in_err-c : goal.returns-in_err-c
unfolding four_of
returns-in_err-c c = next _ c.flag_deltas.ensures c.in_ok-a.was (next _ c.flag_deltas-2.ensures c.in_ok-b.was (passes-on _ c.flag_deltas-3.ensures c.in_err-c.was c.from_residual-in_err-c.ensures))

pub returns-in_err-d : goal.returns-in_err-d
unfolding four_of
returns-in_err-d c = next _ c.flag_deltas.ensures c.in_ok-a.was (next _ c.flag_deltas-2.ensures c.in_ok-b.was (next _ c.flag_deltas-3.ensures c.in_ok-c.was (passes-on _ c.penalty_deltas.ensures c.in_err-d.was c.from_residual-in_err-d.ensures)))

pub returns : goal.returns
unfolding four_of
returns c = next _ c.flag_deltas.ensures c.in_ok-a.was (next _ c.flag_deltas-2.ensures c.in_ok-b.was (next _ c.flag_deltas-3.ensures c.in_ok-c.was (next _ c.penalty_deltas.ensures c.in_ok-d.was refl)))

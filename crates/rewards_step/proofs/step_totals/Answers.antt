use mathlib.Core.Path.{refl}
use Rattle.arithmetic.proofs.Laws.{next, passes-on}
use Rattle.refusals.proofs.Laws.{good-settings}
use Rattle.rewards_step.specs.Step.{step_totals}
use Rattle.rewards_step.proofs.step_totals.Goals as goal

pub inactivity_leak-requires : goal.inactivity_leak-requires
inactivity_leak-requires c = (good-settings _ c.requires.s_value).positive.slots_per_epoch

pub returns-in_err-source : goal.returns-in_err-source
unfolding step_totals
returns-in_err-source c = passes-on _ c.total_participating.ensures c.in_err-source.was c.from_residual.ensures

pub returns-in_err-total : goal.returns-in_err-total
unfolding step_totals
returns-in_err-total c = next _ c.total_participating.ensures c.in_ok-source.was (passes-on _ c.total_active.ensures c.in_err-total.was c.from_residual-in_err-total.ensures)

pub returns-in_err-leaking : goal.returns-in_err-leaking
unfolding step_totals
returns-in_err-leaking c = next _ c.total_participating.ensures c.in_ok-source.was (next _ c.total_active.ensures c.in_ok-total.was (passes-on _ c.inactivity_leak.ensures c.in_err-leaking.was c.from_residual-in_err-leaking.ensures))

pub returns-in_err-target : goal.returns-in_err-target
unfolding step_totals
returns-in_err-target c = next _ c.total_participating.ensures c.in_ok-source.was (next _ c.total_active.ensures c.in_ok-total.was (next _ c.inactivity_leak.ensures c.in_ok-leaking.was (passes-on _ c.total_participating-2.ensures c.in_err-target.was c.from_residual-in_err-target.ensures)))

pub returns-in_err-head : goal.returns-in_err-head
unfolding step_totals
returns-in_err-head c = next _ c.total_participating.ensures c.in_ok-source.was (next _ c.total_active.ensures c.in_ok-total.was (next _ c.inactivity_leak.ensures c.in_ok-leaking.was (next _ c.total_participating-2.ensures c.in_ok-target.was (passes-on _ c.total_participating-3.ensures c.in_err-head.was c.from_residual-in_err-head.ensures))))

pub returns : goal.returns
unfolding step_totals
returns c = next _ c.total_participating.ensures c.in_ok-source.was (next _ c.total_active.ensures c.in_ok-total.was (next _ c.inactivity_leak.ensures c.in_ok-leaking.was (next _ c.total_participating-2.ensures c.in_ok-target.was (next _ c.total_participating-3.ensures c.in_ok-head.was refl))))

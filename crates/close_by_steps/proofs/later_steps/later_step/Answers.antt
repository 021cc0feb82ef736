use Rattle.refusals.proofs.Laws.{good-settings}
use Rattle.close_by_steps.proofs.later_steps.Later.{by-rewards, by-slashings, by-reset, by-plain}
use Rattle.close_by_steps.proofs.later_steps.later_step.Goals as goal

pub rewards_booked-requires : goal.rewards_booked-requires
rewards_booked-requires c = let a = c.requires in record { s_value = a.le_done.2; quotient_nonzero = (good-settings _ a.le_done.2).positive.inactivity_penalty_quotient_altair; registry_len = (a.registry_len.0, a.registry_len.1) }

pub returns-then-done-eq2 : goal.returns-then-done-eq2
returns-then-done-eq2 c = by-rewards _ _ _ _ _ _ c.if-done-eq2.true c.rewards_booked.ensures

pub returns-then-done-eq4 : goal.returns-then-done-eq4
returns-then-done-eq4 c = by-slashings _ _ _ _ _ _ c.if-done-eq4.true c.slashings_booked.ensures

pub returns-then-done-eq6 : goal.returns-then-done-eq6
returns-then-done-eq6 c = by-reset _ _ _ _ _ _ c.if-done-eq6.true c.requires.registry_len.0 c.slashings_reset_core.ensures

pub returns : goal.returns
returns c = let a = c.requires in by-plain _ _ _ _ _ _ _ a.le_done.0 a.le_done.1 c.if-done-eq2.false c.if-done-eq4.false c.if-done-eq6.false c.plain_step.ensures

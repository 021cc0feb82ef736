use Rattle.refusals.proofs.Laws.{good-settings}
use mathlib.Core.Path.{sym, ◌∙◌}
use Rattle.arithmetic.proofs.Laws.{carried}
use Rattle.rewards_step.proofs.Step.{totals-least}
use Rattle.close_by_steps.proofs.step_amounts.Rewards.{refused-booked, genesis-booked, step-booked}
use Rattle.close_by_steps.proofs.step_amounts.rewards_booked.Goals as goal

pub current_epoch-current-requires : goal.current_epoch-current-requires
current_epoch-current-requires c = (good-settings _ c.requires.s_value).positive.slots_per_epoch

pub returns-then-current-eq0 : goal.returns-then-current-eq0
returns-then-current-eq0 c =
    let a = c.requires in
    genesis-booked _ _ _ _ _ a.registry_len.0 c.current_epoch-current.ensures c.if-current-eq0.true c.args.amounts.now a.registry_len.1 (c.fill.ensures.after (λ y e. e))

pub previous_epoch-previous-requires : goal.previous_epoch-previous-requires
previous_epoch-previous-requires c = (good-settings _ c.requires.s_value).positive.slots_per_epoch

pub returns-in_err-totals : goal.returns-in_err-totals
returns-in_err-totals c = rw (carried _ c.from_residual.ensures) (refused-booked _ _ _ _ _ c.requires.registry_len.0 c.current_epoch-current.ensures c.previous_epoch-previous.ensures c.if-current-eq0.false (sym c.step_totals.ensures ∙ c.in_err-totals.was))

pub reward_registry_booked-requires : goal.reward_registry_booked-requires
reward_registry_booked-requires c =
    let a = c.requires in
    let p = (good-settings _ a.s_value).positive in
    let least = totals-least _ _ _ _ _ _ (sym c.step_totals.ensures ∙ c.in_ok-totals.was) in
    record { effective_balance_increment_nonzero = (p.effective_balance_increment, least); inactivity_score_bias_nonzero = (p.inactivity_score_bias, a.quotient_nonzero); registry_len = a.registry_len }

pub returns : goal.returns
returns c = step-booked _ _ _ _ _ c.requires.registry_len.0 c.current_epoch-current.ensures c.previous_epoch-previous.ensures c.if-current-eq0.false (sym c.step_totals.ensures ∙ c.in_ok-totals.was) c.reward_registry_booked.ensures

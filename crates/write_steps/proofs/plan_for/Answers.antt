use mathlib.Core.Path.{sym, ◌∙◌}
use Rattle.refusals.proofs.Laws.{good-settings}
use Rattle.slashings.proofs.Adjusted.{only-adjusted}
use Rattle.write_steps.specs.Numbers.{no_leak, no_adjusted, no_thresholds}
use Rattle.write_steps.proofs.Only.{only-leak, only-thresholds}
use Rattle.write_steps.proofs.Made.{plan-made, plan_lacks}
use Rattle.write_steps.proofs.plan_for.Goals as goal

pub current_epoch-current-requires : goal.current_epoch-current-requires
current_epoch-current-requires c = (good-settings _ c.requires.0).positive.slots_per_epoch

pub previous_epoch-previous-requires : goal.previous_epoch-previous-requires
previous_epoch-previous-requires c = (good-settings _ c.requires.0).positive.slots_per_epoch

pub leak_of-requires : goal.leak_of-requires
leak_of-requires c = ((good-settings _ c.requires.0).positive.slots_per_epoch, c.current_epoch-current.ensures)

pub returns-in_err-leaking : goal.returns-in_err-leaking
returns-in_err-leaking c = plan_lacks (only-leak _ _ _) no_leak c.leak_of.ensures c.in_err-leaking.was c.from_residual.ensures

pub returns-in_err-adjusted : goal.returns-in_err-adjusted
returns-in_err-adjusted c = plan_lacks (only-adjusted _ _ _) no_adjusted c.adjusted_balance.ensures c.in_err-adjusted.was c.from_residual-in_err-adjusted.ensures

pub hysteresis-requires : goal.hysteresis-requires
hysteresis-requires c = (good-settings _ c.requires.0).positive.hysteresis_quotient

pub returns-in_err-thresholds : goal.returns-in_err-thresholds
returns-in_err-thresholds c = plan_lacks (only-thresholds _) no_thresholds c.hysteresis.ensures c.in_err-thresholds.was c.from_residual-in_err-thresholds.ensures

pub make_plan-p-requires : goal.make_plan-p-requires
make_plan-p-requires c =
    let p = (good-settings _ c.requires.0).positive in
    record { effective_balance_increment_nonzero = (p.effective_balance_increment, c.requires.1); inactivity_score_bias_nonzero = (p.inactivity_score_bias, p.inactivity_penalty_quotient_altair) }

pub returns : goal.returns
returns c =
    plan-made (sym c.leak_of.ensures ∙ c.in_ok-leaking.was)
    (sym c.adjusted_balance.ensures ∙ c.in_ok-adjusted.was)
    (sym c.hysteresis.ensures ∙ c.in_ok-thresholds.was)
    (rw (c.current_epoch-current.ensures, c.previous_epoch-previous.ensures) at c.make_plan-p.ensures)

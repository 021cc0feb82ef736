use Rattle.arithmetic.proofs.Laws.{carried}
use Rattle.refusals.proofs.Laws.{good-settings}
use Rattle.balances.proofs.effective_balances.Step.{updated-by, not_updated}
use Rattle.balances.proofs.effective_balances.effective_balances_core.Goals as goal

pub hysteresis-requires : goal.hysteresis-requires
hysteresis-requires c = (good-settings c.args.s c.requires.1).positive.hysteresis_quotient

pub returns-in_err-thresholds : goal.returns-in_err-thresholds
returns-in_err-thresholds c = rw (carried _ c.from_residual.ensures) (not_updated _ _ c.hysteresis.ensures c.in_err-thresholds.was)

pub update_all-requires : goal.update_all-requires
update_all-requires c = (c.requires.0, (good-settings c.args.s c.requires.1).positive.effective_balance_increment)

pub returns : goal.returns
returns c = updated-by _ _ c.hysteresis.ensures c.in_ok-thresholds.was c.update_all.ensures

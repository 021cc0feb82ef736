use mathlib.Core.Path.{sym, ◌∙◌}
use native.Mathlib.Omega.{arith}
use Rattle.laws.proofs.Encode.{length-decode}
use Rattle.arithmetic.proofs.Laws.{carried}
use Rattle.refusals.proofs.Laws.{good-settings}
use Rattle.laws.proofs.Loops.Ran.{ran-refused}
use Rattle.electra_balances.proofs.Turns.{none_yet, all-updated, none-updated}
use Rattle.electra_balances.proofs.effective_balances_core.Goals as goal

pub returns-then-compounding-eq0 : goal.returns-then-compounding-eq0
returns-then-compounding-eq0 c = all-updated (none_yet _ c.requires.0) (omega arith)

pub hysteresis-requires : goal.hysteresis-requires
hysteresis-requires c = (good-settings c.args.rules.settings c.requires.1).positive.hysteresis_quotient

pub returns-in_err-thresholds : goal.returns-in_err-thresholds
returns-in_err-thresholds c =
    let a = c.args in
    let some = c.if-compounding-eq0.false in
    rw (carried _ c.from_residual.ensures) (ran-refused (none-updated a.rules (sym c.hysteresis.ensures ∙ c.in_err-thresholds.was) a.compounding.now _ (omega (arith, some)) (sym (length-decode _ _ c.requires.0))))

pub update_all-requires : goal.update_all-requires
update_all-requires c = record { registry_len = (c.requires.0, (good-settings c.args.rules.settings c.requires.1).positive.effective_balance_increment); settings_value = sym c.hysteresis.ensures ∙ c.in_ok-thresholds.was }

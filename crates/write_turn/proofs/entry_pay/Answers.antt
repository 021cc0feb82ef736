use mathlib.Core.Path.{sym, ◌∙◌}
use native.Mathlib.Omega.{arith}
use Rattle.arithmetic.proofs.Laws.{carried}
use Rattle.write_turn.proofs.Entry.{pays-none, pays-stop, pays-over, pays-paid, balance-scored}
use Rattle.write_turn.proofs.Sweeps.Runs.{settles-runs}
use Rattle.write_turn.proofs.entry_pay.Goals as goal

pub returns-then-h-eq0 : goal.returns-then-h-eq0
returns-then-h-eq0 c = pays-none _ _ c.requires.len (omega (arith, c.if-h-eq0.true))

pub returns-in_err-scored : goal.returns-in_err-scored
returns-in_err-scored c =
    pays-stop _ _ (λ z. omega (arith, c.if-h-eq0.false)) (settles-runs c.entry_update_score-scored.ensures) c.in_err-scored.was (carried _ c.from_residual.ensures)

pub entry_reward_by-rewarded-requires : goal.entry_reward_by-rewarded-requires
entry_reward_by-rewarded-requires c =
    let a = c.requires in
    let rates = a.rates_for in
    record { shared_by = a.planned.shared; inactivity_score_bias_nonzero = (a.planned.bias, a.planned.quotient); says = a.planned.product; len = c.entry_update_score-scored.auto.entry ∙ a.len; fits = rates.fits; effective_balance_value = rates.same ∙ sym (balance-scored _ _ _ _ c.entry_update_score-scored.ensures) }

pub returns-in_err-done : goal.returns-in_err-done
returns-in_err-done c =
    pays-over _ _ (λ z. omega (arith, c.if-h-eq0.false)) (settles-runs c.entry_update_score-scored.ensures) c.in_ok-scored.was c.entry_reward_by-rewarded.ensures.settles c.in_err-done.was (carried _ c.from_residual-in_err-done.ensures)

pub returns : goal.returns
returns c =
    let rewarded = c.entry_reward_by-rewarded.ensures in
    pays-paid _ _ (λ z. omega (arith, c.if-h-eq0.false)) (settles-runs c.entry_update_score-scored.ensures) c.in_ok-scored.was rewarded.settles c.in_ok-done.was rewarded.pairs

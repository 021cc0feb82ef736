use mathlib.Core.Path.{sym, ◌∙◌}
use Rattle.arithmetic.proofs.Laws.{carried}
use Rattle.electra_registry.proofs.Turns.{exit-known, exit-full, exit-over, exit-written}
use Rattle.electra_registry.proofs.exits.exit_by_balance.Goals as goal

pub returns-then-entry : goal.returns-then-entry
returns-then-entry c = exit-known _ _ _ _ _ c.requires c.if-entry.true

pub returns-in_err-after : goal.returns-in_err-after
returns-in_err-after c = exit-full _ _ _ _ _ c.requires c.if-entry.false (sym c.exit_churn.ensures ∙ c.in_err-after.was) (carried _ c.from_residual.ensures)

pub returns-in_err-withdrawable : goal.returns-in_err-withdrawable
returns-in_err-withdrawable c = exit-over _ _ _ _ _ c.requires c.if-entry.false (sym c.exit_churn.ensures ∙ c.in_ok-after.was) (sym c.add64.ensures ∙ c.in_err-withdrawable.was) (carried _ c.from_residual-in_err-withdrawable.ensures)

pub returns : goal.returns
returns c = exit-written _ _ _ _ _ c.requires c.if-entry.false (sym c.exit_churn.ensures ∙ c.in_ok-after.was) (sym c.add64.ensures ∙ c.in_ok-withdrawable.was) c.write_exit.ensures

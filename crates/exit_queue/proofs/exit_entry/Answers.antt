use mathlib.Core.Path.{sym, ◌∙◌}
use Rattle.arithmetic.proofs.Laws.{carried}
use Rattle.exit_queue.proofs.Turns.{exit-known, exit-full, exit-over, exit-written}
use Rattle.exit_queue.proofs.exit_entry.Goals as goal

pub returns-then-entry : goal.returns-then-entry
returns-then-entry c = exit-known _ _ _ _ c.requires.0 c.if-entry.true

pub returns-in_err-exit : goal.returns-in_err-exit
returns-in_err-exit c = exit-full _ _ _ _ c.requires.0 c.if-entry.false (sym c.next_epoch.ensures ∙ c.in_err-exit.was) (carried _ c.from_residual.ensures)

pub returns-in_err-withdrawable : goal.returns-in_err-withdrawable
returns-in_err-withdrawable c =
    exit-over _ _ _ _ c.requires.0 c.if-entry.false (sym c.next_epoch.ensures ∙ c.in_ok-exit.was) (sym c.add64.ensures ∙ c.in_err-withdrawable.was) (carried _ c.from_residual-in_err-withdrawable.ensures)

pub returns : goal.returns
returns c =
    exit-written _ _ _ _ c.requires.0 c.if-entry.false (sym c.next_epoch.ensures ∙ c.in_ok-exit.was) (sym c.add64.ensures ∙ c.in_ok-withdrawable.was) c.write_exit.ensures c.exited.ensures

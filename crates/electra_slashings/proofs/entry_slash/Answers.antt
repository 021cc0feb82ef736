use mathlib.Core.Path.{sym, ◌∙◌}
use Rattle.laws.proofs.Encode.{ten}
use Rattle.arithmetic.proofs.Laws.{carried}
use Rattle.laws.proofs.Loops.Checking.{settles-value, settles-refused}
use Rattle.electra_slashings.proofs.Slash.{unslashed, due-refused, not_due, penalty-refused, penalized}
use Rattle.electra_slashings.proofs.entry_slash.Goals as goal

pub returns-then-entry-ne1 : goal.returns-then-entry-ne1
returns-then-entry-ne1 c = settles-value _ (unslashed _ _ _ _ c.if-entry-ne1.true) (ten _ c.requires.0)

pub returns-in_err-due : goal.returns-in_err-due
returns-in_err-due c = rw (carried _ c.from_residual.ensures) (settles-refused _ c.requires.0 (due-refused _ _ _ _ c.if-entry-ne1.false (sym c.add64.ensures ∙ c.in_err-due.was)))

pub returns-then-due-entry : goal.returns-then-due-entry
returns-then-due-entry c = settles-value _ (not_due _ _ _ _ c.if-entry-ne1.false (sym c.add64.ensures ∙ c.in_ok-due.was) c.if-due-entry.true) (ten _ c.requires.0)

pub returns-in_err-penalty : goal.returns-in_err-penalty
returns-in_err-penalty c = rw (carried _ c.from_residual-in_err-penalty.ensures) (settles-refused _ c.requires.0 (penalty-refused _ _ _ _ c.if-entry-ne1.false (sym c.add64.ensures ∙ c.in_ok-due.was) c.if-due-entry.false (sym c.mul64.ensures ∙ c.in_err-penalty.was)))

pub returns : goal.returns
returns c = settles-value _ (penalized _ _ _ _ c.if-entry-ne1.false (sym c.add64.ensures ∙ c.in_ok-due.was) c.if-due-entry.false (sym c.mul64.ensures ∙ c.in_ok-penalty.was)) c.entry_decrease_balance.ensures

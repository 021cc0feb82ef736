use mathlib.Core.Path.{sym, ◌∙◌}
use Rattle.arithmetic.proofs.Laws.{carried}
use Rattle.electra_deposits.proofs.Alone.{turn-withdrawn, turn-withdrawn_not, turn-exited, turn-over, turn-full, turn-applied, turn-applied_not}
use Rattle.electra_deposits.proofs.deposit_turn.Goals as goal

pub returns-in_err-raise : goal.returns-in_err-raise
returns-in_err-raise c = turn-withdrawn_not c.args.q _ _ _ c.withdrawn_at.ensures c.if-withdrawn_at.true c.raise.ensures c.in_err-raise.was (carried _ c.from_residual.ensures)

pub returns-then-withdrawn_at : goal.returns-then-withdrawn_at
returns-then-withdrawn_at c = turn-withdrawn c.args.q _ _ _ c.withdrawn_at.ensures c.if-withdrawn_at.true c.raise.ensures c.in_ok-raise.was

pub returns-then-exited_at : goal.returns-then-exited_at
returns-then-exited_at c = turn-exited c.args.q _ _ _ c.withdrawn_at.ensures c.if-withdrawn_at.false c.exited_at.ensures c.if-exited_at.true

pub returns-in_err-sum : goal.returns-in_err-sum
returns-in_err-sum c = turn-over c.args.q _ _ _ c.withdrawn_at.ensures c.if-withdrawn_at.false c.exited_at.ensures c.if-exited_at.false (sym c.add64.ensures ∙ c.in_err-sum.was) (carried _ c.from_residual-in_err-sum.ensures)

pub returns-then-q-sum : goal.returns-then-q-sum
returns-then-q-sum c = turn-full c.args.q _ _ _ c.withdrawn_at.ensures c.if-withdrawn_at.false c.exited_at.ensures c.if-exited_at.false (sym c.add64.ensures ∙ c.in_ok-sum.was) c.if-q-sum.true

pub returns-in_err-raise-2 : goal.returns-in_err-raise-2
returns-in_err-raise-2 c = turn-applied_not c.args.q _ _ _ c.withdrawn_at.ensures c.if-withdrawn_at.false c.exited_at.ensures c.if-exited_at.false (sym c.add64.ensures ∙ c.in_ok-sum.was) c.if-q-sum.false c.raise-2.ensures c.in_err-raise-2.was (carried _ c.from_residual-in_err-raise-2.ensures)

pub returns : goal.returns
returns c = turn-applied c.args.q _ _ _ c.withdrawn_at.ensures c.if-withdrawn_at.false c.exited_at.ensures c.if-exited_at.false (sym c.add64.ensures ∙ c.in_ok-sum.was) c.if-q-sum.false c.raise-2.ensures c.in_ok-raise-2.was

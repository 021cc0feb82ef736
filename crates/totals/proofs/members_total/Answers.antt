use mathlib.Core.Path.{sym, ◌∙◌}
use Rattle.arithmetic.proofs.Laws.{carried}
use Rattle.totals.proofs.WithRaised.{total_of-sum, total-over}
use Rattle.totals.proofs.members_total.Goals as goal

pub returns-in_err-sum : goal.returns-in_err-sum
returns-in_err-sum c = total-over _ _ (sym c.members_balance.ensures ∙ c.in_err-sum.was) (carried _ c.from_residual.ensures)

pub returns : goal.returns
returns c = total_of-sum _ _ (sym c.members_balance.ensures ∙ c.in_ok-sum.was) c.total_from-total.ensures

use native.Mathlib.Omega.{arith}
use Rattle.refusals.proofs.Laws.{good-settings}
use Rattle.electra_refusals.proofs.Passed.{good-electra}
use Rattle.electra_first.proofs.numbers_by.Goals as goal

pub overflow_add-least-2 : goal.overflow_add-least-2
overflow_add-least-2 c = omega (arith, c.requires.1, (good-settings _ (good-electra _ c.requires.0).settings).small.max_seed_lookahead)

pub churn_limit-requires : goal.churn_limit-requires
churn_limit-requires c =
    let g = (good-electra _ c.requires.0).positive in
    (g.churn_limit_quotient, g.effective_balance_increment)

pub returns : goal.returns
returns c = rw c.churn_limit.ensures

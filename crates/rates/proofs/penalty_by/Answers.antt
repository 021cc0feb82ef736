use Rattle.arithmetic.proofs.Laws.{carried}
use Rattle.rewards.proofs.Penalties.{product-divides}
use Rattle.rates.proofs.Charged.{not_eligible, target_hit, no-product, too_much, by_division, none-charged}
use native.Mathlib.Omega.{arith}
use mathlib.Core.Path.{sym, ap, ◌∙◌}
use mathlib.Core.Bool.{not}
use Rattle.rates.proofs.penalty_by.Goals as goal

pub returns-then-not-eligible : goal.returns-then-not-eligible
returns-then-not-eligible c = not_eligible _ _ _ _ _ _ (ap not c.if-not-eligible.true)

pub returns-then-hit : goal.returns-then-hit
returns-then-hit c = target_hit _ _ _ _ _ _ (ap not c.if-not-eligible.false) c.if-hit.true

pub returns-in_err-denominator : goal.returns-in_err-denominator
returns-in_err-denominator c = carried _ c.from_residual.ensures ∙ no-product _ _ _ _ _ _ (ap not c.if-not-eligible.false) c.if-hit.false (sym c.requires.says ∙ c.in_err-denominator.was)

pub returns-then-score-eq0 : goal.returns-then-score-eq0
returns-then-score-eq0 c =
    let a = c.requires in
    none-charged _ _ _ _ _ _ (ap not c.if-not-eligible.false) c.if-hit.false (sym a.says ∙ c.in_ok-denominator.was) (product-divides a.bias_nonzero.0 a.bias_nonzero.1 a.says c.in_ok-denominator.was) c.if-score-eq0.true

pub returns-then-most_score-score : goal.returns-then-most_score-score
returns-then-most_score-score c = too_much _ _ _ _ _ _ (ap not c.if-not-eligible.false) c.if-hit.false (c.requires.most.over _ (omega arith) c.if-most_score-score.true)

pub overflow_mul-penalty : goal.overflow_mul-penalty
overflow_mul-penalty c = record { fits = c.requires.most.fits _ c.if-most_score-score.false }

pub nonzero_div-penalty : goal.nonzero_div-penalty
nonzero_div-penalty c =
    let a = c.requires in
    let p = product-divides a.bias_nonzero.0 a.bias_nonzero.1 a.says c.in_ok-denominator.was in
    omega (arith, p)

pub returns : goal.returns
returns c =
    let a = c.requires in
    by_division _ _ _ _ _ _ (ap not c.if-not-eligible.false) c.if-hit.false (sym a.says ∙ c.in_ok-denominator.was) (a.most.fits _ c.if-most_score-score.false)

use mathlib.Core.Bool.{not}
use mathlib.Core.Path.{refl, ap}
use native.Mathlib.Omega.{arith}
use Rattle.arithmetic.proofs.Laws.{next, passes-on}
use Rattle.rewards.proofs.Penalties.{product-divides, penalty-none, penalty_hit, penalty_miss}
use Rattle.rewards.proofs.penalty_deltas.Goals as goal

pub returns-then-not-entry_is_eligible : goal.returns-then-not-entry_is_eligible
returns-then-not-entry_is_eligible c = penalty-none _ _ _ _ _ c.entry_is_eligible.ensures (ap not c.if-not-entry_is_eligible.true)

pub returns-then-entry_is_participating : goal.returns-then-entry_is_participating
returns-then-entry_is_participating c = penalty_hit _ _ _ _ _ c.entry_is_eligible.ensures (ap not c.if-not-entry_is_eligible.false) c.entry_is_participating.ensures c.if-entry_is_participating.true

pub returns-in_err-numerator : goal.returns-in_err-numerator
returns-in_err-numerator c = penalty_miss _ _ _ _ _ c.entry_is_eligible.ensures (ap not c.if-not-entry_is_eligible.false) c.entry_is_participating.ensures c.if-entry_is_participating.false (passes-on _ c.mul64.ensures c.in_err-numerator.was c.from_residual.ensures)

pub returns-in_err-denominator : goal.returns-in_err-denominator
returns-in_err-denominator c = penalty_miss _ _ _ _ _ c.entry_is_eligible.ensures (ap not c.if-not-entry_is_eligible.false) c.entry_is_participating.ensures c.if-entry_is_participating.false (next _ c.mul64.ensures c.in_ok-numerator.was (passes-on _ c.requires.says c.in_err-denominator.was c.from_residual-in_err-denominator.ensures))

pub nonzero_div-penalty : goal.nonzero_div-penalty
nonzero_div-penalty c = let a = c.requires in let p = product-divides a.inactivity_score_bias_nonzero a.quotient_nonzero a.says c.in_ok-denominator.was in omega arith

pub returns : goal.returns
returns c = penalty_miss _ _ _ _ _ c.entry_is_eligible.ensures (ap not c.if-not-entry_is_eligible.false) c.entry_is_participating.ensures c.if-entry_is_participating.false (next _ c.mul64.ensures c.in_ok-numerator.was (next _ c.requires.says c.in_ok-denominator.was refl))

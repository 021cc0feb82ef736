use mathlib.Core.Path.{refl}
use native.Mathlib.Omega.{arith}
use Rattle.arithmetic.proofs.Laws.{next, passes-on}
use Rattle.rewards.proofs.Flags.{divides, hit_leaking, hit_not_leaking}
use Rattle.rewards.proofs.hit_deltas.Goals as goal

pub returns-then-h : goal.returns-then-h
returns-then-h c = hit_leaking _ _ _ _ c.if-h.true

pub returns-in_err-weighted : goal.returns-in_err-weighted
returns-in_err-weighted c = hit_not_leaking _ _ _ _ c.if-h.false (passes-on _ c.mul64.ensures c.in_err-weighted.was c.from_residual.ensures)

pub returns-in_err-numerator : goal.returns-in_err-numerator
returns-in_err-numerator c = hit_not_leaking _ _ _ _ c.if-h.false (next _ c.mul64.ensures c.in_ok-weighted.was (passes-on _ c.mul64-2.ensures c.in_err-numerator.was c.from_residual-in_err-numerator.ensures))

pub returns-in_err-denominator : goal.returns-in_err-denominator
returns-in_err-denominator c = hit_not_leaking _ _ _ _ c.if-h.false (next _ c.mul64.ensures c.in_ok-weighted.was (next _ c.mul64-2.ensures c.in_ok-numerator.was (passes-on _ c.requires.denominator c.in_err-denominator.was c.from_residual-in_err-denominator.ensures)))

pub nonzero_div-reward : goal.nonzero_div-reward
nonzero_div-reward c = let p = divides c.requires c.in_ok-denominator.was in omega arith

pub returns : goal.returns
returns c = hit_not_leaking _ _ _ _ c.if-h.false (next _ c.mul64.ensures c.in_ok-weighted.was (next _ c.mul64-2.ensures c.in_ok-numerator.was (next _ c.requires.denominator c.in_ok-denominator.was refl)))

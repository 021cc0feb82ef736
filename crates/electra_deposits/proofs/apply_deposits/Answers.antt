use native.Mathlib.Omega.{arith}
use mathlib.Core.Path.{refl, ◌∙◌}
use Rattle.arithmetic.proofs.Laws.{carried}
use Rattle.electra_deposits.proofs.Alone.{going_none, going_all, going_left, going_stop, going_full, going_more}
use Rattle.electra_deposits.proofs.apply_deposits.Goals as goal

pub loop-i-init : goal.loop-i-init
loop-i-init c = (refl, refl, going_none _ _ _ c.requires)

pub deposit_at-d-requires : goal.deposit_at-d-requires
deposit_at-d-requires c = omega (arith, c.loop-i.invariant.0)

pub returns-then-stops_before : goal.returns-then-stops_before
returns-then-stops_before c = going_left c.loop-i.invariant.2 c.loop-i-test.true c.deposit_at-d.ensures c.stops_before.ensures c.if-stops_before.true

pub deposit_turn-requires : goal.deposit_turn-requires
deposit_turn-requires c = c.loop-i.invariant.2.long

pub returns-in_err-turn : goal.returns-in_err-turn
returns-in_err-turn c = going_stop c.loop-i.invariant.2 c.loop-i-test.true c.deposit_at-d.ensures c.stops_before.ensures c.if-stops_before.false c.deposit_turn.ensures c.in_err-turn.was (carried _ c.from_residual.ensures)

pub returns-then-turn : goal.returns-then-turn
returns-then-turn c = going_full c.loop-i.invariant.2 c.loop-i-test.true c.deposit_at-d.ensures c.stops_before.ensures c.if-stops_before.false c.deposit_turn.ensures c.in_ok-turn.was c.deposit_turn.auto.registry c.if-turn.true

pub overflow_step-i : goal.overflow_step-i
overflow_step-i c = omega (arith, c.loop-i-test.true, c.loop-i.invariant.0)

pub loop-i-preserved : goal.loop-i-preserved
loop-i-preserved c =
    let inv = c.loop-i.invariant in
    let kept = c.deposit_turn.auto.registry in
    (inv.0, kept ∙ inv.1, going_more inv.2 c.loop-i-test.true c.deposit_at-d.ensures c.stops_before.ensures c.if-stops_before.false c.deposit_turn.ensures c.in_ok-turn.was kept c.if-turn.false)

pub returns : goal.returns
returns c = going_all c.loop-i.invariant.2 (omega (arith, c.loop-i-test.false, c.loop-i.invariant.0))

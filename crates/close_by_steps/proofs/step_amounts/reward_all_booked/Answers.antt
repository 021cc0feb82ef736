use mathlib.Core.Path.{◌∙◌}
use Rattle.arithmetic.proofs.Laws.{carried}
use Rattle.close_by_steps.proofs.step_amounts.Rewards.{booking_none, booking_ten, booking_nine, booking_stop, booking_more, booking_all}
use native.Mathlib.Omega.{arith}
use Rattle.close_by_steps.proofs.step_amounts.reward_all_booked.Goals as goal

pub loop-i-init : goal.loop-i-init
loop-i-init c = booking_none (omega (arith, c.requires.registry_len.0)) (omega (arith, c.requires.registry_len.1)) (omega (arith, c.requires.registry_len.0, c.well_formed.1.1.1.1.1.1.1.0))

pub entry_reward_booked-requires : goal.entry_reward_booked-requires
entry_reward_booked-requires c =
    let a = c.requires in
    let g = c.loop-i.invariant in
    let l = c.loop-i-test.true in
    record { shared_by = a.shared_by; inactivity_score_bias_nonzero = a.inactivity_score_bias_nonzero; says = a.says; len = (booking_ten g l, booking_nine g l) }

pub shape_of-registry-in_err-entry_reward_booked : goal.shape_of-registry-in_err-entry_reward_booked
shape_of-registry-in_err-entry_reward_booked c =
    let g = c.loop-i.invariant in
    omega (arith, c.loop-i-test.true, g.small, g.checking.mapped.long, g.long)

pub shape_of-amounts-in_err-entry_reward_booked : goal.shape_of-amounts-in_err-entry_reward_booked
shape_of-amounts-in_err-entry_reward_booked c =
    let g = c.loop-i.invariant in
    omega (arith, c.loop-i-test.true, g.small, g.checking.mapped.long, g.long)

pub returns-in_err-entry_reward_booked : goal.returns-in_err-entry_reward_booked
returns-in_err-entry_reward_booked c = rw (carried _ c.from_residual.ensures) (booking_stop c.loop-i.invariant c.loop-i-test.true c.entry_reward_booked.ensures c.in_err-entry_reward_booked.was)

pub loop-i-preserved : goal.loop-i-preserved
loop-i-preserved c =
    let g = c.loop-i.invariant in
    let l = c.loop-i-test.true in
    let e = c.entry_reward_booked in
    booking_more g l e.ensures c.in_ok-entry_reward_booked.was (e.auto.nine ∙ booking_nine g l)

pub returns : goal.returns
returns c = booking_all c.loop-i.invariant c.loop-i-test.false (let g = c.loop-i.invariant in omega (arith, g.first))

pub slice_bounds-entry_reward_booked-start : goal.slice_bounds-entry_reward_booked-start
slice_bounds-entry_reward_booked-start c = omega (arith, c.loop-i-test.true, c.loop-i.invariant.checking.mapped.long)

pub slice_bounds-entry_reward_booked-end : goal.slice_bounds-entry_reward_booked-end
slice_bounds-entry_reward_booked-end c = omega (arith, c.loop-i-test.true, c.loop-i.invariant.checking.mapped.long)

pub offset_bounds-amounts-c : goal.offset_bounds-amounts-c
offset_bounds-amounts-c c = omega (arith, c.loop-i-test.true, c.loop-i.invariant.small)

pub slice_bounds-entry_reward_booked-count-in-loop-i : goal.slice_bounds-entry_reward_booked-count-in-loop-i
slice_bounds-entry_reward_booked-count-in-loop-i c = omega (arith, c.loop-i-test.true, c.loop-i.invariant.small)

pub slice_bounds-entry_reward_booked-start-in-loop-i : goal.slice_bounds-entry_reward_booked-start-in-loop-i
slice_bounds-entry_reward_booked-start-in-loop-i c = omega (arith, c.loop-i-test.true, c.loop-i.invariant.long)

pub slice_bounds-entry_reward_booked-end-in-loop-i : goal.slice_bounds-entry_reward_booked-end-in-loop-i
slice_bounds-entry_reward_booked-end-in-loop-i c = omega (arith, c.loop-i-test.true, c.loop-i.invariant.long)

pub loop-i-smaller : goal.loop-i-smaller
loop-i-smaller c = omega (arith, c.loop-i-test.true)

pub shape_of-registry : goal.shape_of-registry
shape_of-registry c = let g = c.loop-i.invariant in omega (arith, g.checking.mapped.long, g.long, g.first, c.requires.registry_len.1)

pub shape_of-amounts : goal.shape_of-amounts
shape_of-amounts c = let g = c.loop-i.invariant in omega (arith, g.checking.mapped.long, g.long, g.first, c.requires.registry_len.1)

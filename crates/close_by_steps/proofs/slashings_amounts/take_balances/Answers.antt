use Prim.Native.Nat.{◌-◌}
use mathlib.Core.Path.{refl, ◌∙◌, ap₂}
use Rattle.close_by_steps.proofs.slashings_amounts.Taken.{putting-none, putting-nine, putting-ninth, putting-more, taken-all, balance-is, lowered_is}
use native.Mathlib.Omega.{arith}
use Rattle.close_by_steps.proofs.slashings_amounts.take_balances.Goals as goal

pub loop-i-init : goal.loop-i-init
loop-i-init c =
    putting-none (omega (arith, c.requires.1)) (omega (arith, c.requires.0, c.well_formed.0))

pub put_ninth-requires : goal.put_ninth-requires
put_ninth-requires c =
    putting-nine c.loop-i.invariant c.loop-i-test.true

pub loop-i-preserved : goal.loop-i-preserved
loop-i-preserved c =
    let g = c.loop-i.invariant in
    let l = c.loop-i-test.true in
    let e = c.put_ninth in
    putting-more g l (e.auto.nine ∙ putting-nine g l) e.ensures (c.lowered_by-taken.ensures ∙ lowered_is _ _ ∙ ap₂ ◌-◌ (putting-ninth g l) (balance-is _ _ _ c.requires.0 l))

pub returns : goal.returns
returns c =
    taken-all c.loop-i.invariant c.loop-i-test.false refl

pub bounds-registry-i : goal.bounds-registry-i
bounds-registry-i c = omega (arith, c.loop-i-test.true, c.requires.0)

pub overflow_mul-kept : goal.overflow_mul-kept
overflow_mul-kept c = omega (arith, c.loop-i-test.true, c.loop-i.invariant.small)

pub overflow_add-kept : goal.overflow_add-kept
overflow_add-kept c = omega (arith, c.loop-i-test.true, c.loop-i.invariant.small)

pub offset_bounds-amounts-i : goal.offset_bounds-amounts-i
offset_bounds-amounts-i c = omega (arith, c.loop-i-test.true, c.loop-i.invariant.small)

pub bounds-amounts-i : goal.bounds-amounts-i
bounds-amounts-i c = omega (arith, c.loop-i-test.true, c.loop-i.invariant.long)

pub lowered_by-taken-requires : goal.lowered_by-taken-requires
lowered_by-taken-requires c = tt

pub slice_bounds-put_ninth-start : goal.slice_bounds-put_ninth-start
slice_bounds-put_ninth-start c = omega (arith, c.loop-i-test.true, c.loop-i.invariant.long)

pub slice_bounds-put_ninth-end : goal.slice_bounds-put_ninth-end
slice_bounds-put_ninth-end c = omega (arith, c.loop-i-test.true, c.loop-i.invariant.long)

pub loop-i-smaller : goal.loop-i-smaller
loop-i-smaller c = omega (arith, c.loop-i-test.true)

pub shape_of-amounts : goal.shape_of-amounts
shape_of-amounts c = let g = c.loop-i.invariant in omega (arith, g.long, g.first)

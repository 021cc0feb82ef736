use mathlib.Core.Path.{refl}
use native.Mathlib.Omega.{arith}
use Rattle.electra_last.proofs.Appending.{appending_more, appending_all}
use Rattle.electra_last.proofs.append_amounts.Goals as goal

pub loop-k-init : goal.loop-k-init
loop-k-init c =
    let p = c.requires in
    record {
      room = p.1;
      tens = p.0;
      some = p.2;
      below = omega arith;
      long = refl;
      rows = λ j l. absurd (omega arith);
      front = λ p l. refl;
      behind = λ p l. refl;
    }

pub added_value-x-requires : goal.added_value-x-requires
added_value-x-requires c =
    let g = c.loop-k.invariant in
    omega (arith, g.tens, g.some, c.loop-k-test.true)

pub bounds-amounts-p : goal.bounds-amounts-p
bounds-amounts-p c =
    let g = c.loop-k.invariant in
    omega (arith, g.room, g.long, g.some, c.loop-k-test.true)

pub loop-k-preserved : goal.loop-k-preserved
loop-k-preserved c = appending_more c.loop-k.invariant c.loop-k-test.true c.added_value-x.ensures

pub overflow_add-p : goal.overflow_add-p
overflow_add-p c = let g = c.loop-k.invariant in omega (arith, g.room, g.some, c.loop-k-test.true)

pub shape_of-amounts : goal.shape_of-amounts
shape_of-amounts c = omega (arith, c.loop-k.invariant.long)

pub returns : goal.returns
returns c = appending_all c.loop-k.invariant c.loop-k-test.false

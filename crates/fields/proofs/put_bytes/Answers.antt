use Prim.Native.Nat.{◌+◌, ◌-◌}
use native.Mathlib.Omega.{arith}
use native.Mathlib.Numerals.{add-one}
use lib.ListN.{get_or, drop, drop_of_length-le}
use lib.Seq.{drop-cons}
use Rattle.fields.proofs.Stores.{storing-none, storing-one, storing-all}
use Rattle.fields.proofs.put_bytes.Goals as goal

pub loop-i-init : goal.loop-i-init
loop-i-init c = (omega arith, storing-none _ _ _ _ (omega arith))

pub loop-i-preserved : goal.loop-i-preserved
loop-i-preserved c =
    let i = c.loop-i.i in
    let bytes = c.args.bytes.now in
    (omega arith, storing-one c.loop-i.invariant.1 (get_or bytes i 0) (drop (i + 1) bytes) _ (rw (add-one i) (drop-cons bytes i 0 c.loop-i-test.true)) (omega arith))

pub returns : goal.returns
returns c = storing-all c.loop-i.invariant.1 (drop_of_length-le _ c.loop-i-test.false)

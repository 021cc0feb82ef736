use Prim.Native.Nat.{◌-◌}
use native.Mathlib.Omega.{arith}
use Rattle.store.proofs.store_entries.Entries.{length-entries, start-at}
use Rattle.store.proofs.Last.{looking_all, looking_found, looking_less, looking_none}
use Rattle.store.proofs.find_entry.Goals as goal

pub loop-left-init : goal.loop-left-init
loop-left-init c = (looking_all _ _ _ (length-entries c.args.n c.args.store.now), omega arith)

pub returns-then-store-a : goal.returns-then-store-a
returns-then-store-a c =
    let a = c.args in
    let k = c.loop-left.left - 1 in
    looking_found c.loop-left.invariant.0 k (omega arith) (rw (start-at a.n a.store.now k (omega arith)) (omega (arith, c.if-store-a.true)))

pub loop-left-preserved : goal.loop-left-preserved
loop-left-preserved c =
    let a = c.args in
    let k = c.loop-left.left - 1 in
    (looking_less c.loop-left.invariant.0 k (omega arith) (rw (start-at a.n a.store.now k (omega arith)) (omega (arith, c.if-store-a.false))), omega arith)

pub returns : goal.returns
returns c =
    let a = c.args in
    looking_none c.loop-left.invariant.0 c.loop-left-test.false (length-entries a.n a.store.now)

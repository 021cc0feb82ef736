use mathlib.Core.Path.{refl, sym}
use Prim.Native.Nat.{◌+◌, ◌-◌, ◌*◌}
use native.Mathlib.Omega.{arith}
use Rattle.refusals.proofs.All.{fails, passes}
use Rattle.store.proofs.store_entries.Entries.{length-entries, part_length}
use Rattle.store.proofs.store_entries.Sequence.{following_first, following_more, following_stop, following_all, neighbours}
use mathlib.Core.Path.{ap}
use mathlib.Core.Bool.{not}
use Rattle.store.proofs.store_entries.in_sequence.Goals as goal

pub loop-i-init : goal.loop-i-init
loop-i-init c = following_first _

pub follows-requires : goal.follows-requires
follows-requires c =
    let l = c.loop-i-test.true in
    let inv = c.loop-i.invariant in
    let i = c.loop-i.i in
    let xs = c.args.store.now in
    (part_length c.args.n xs c.requires inv.before (23 * i - 23) (23 * i) (omega arith) (omega arith) (omega arith), part_length c.args.n xs c.requires i (23 * i) (23 * i + 23) refl refl l)

pub returns-then-not-follows : goal.returns-then-not-follows
returns-then-not-follows c =
    let t = fails c.follows.ensures (ap not c.if-not-follows.true) in
    sym (following_stop c.loop-i.invariant (omega (arith, length-entries c.args.n c.args.store.now)) (neighbours c.args.n c.args.store.now c.loop-i.invariant c.requires c.loop-i-test.true t))

pub loop-i-preserved : goal.loop-i-preserved
loop-i-preserved c =
    let t = passes c.follows.ensures (ap not c.if-not-follows.false) in
    following_more c.loop-i.invariant (omega (arith, length-entries c.args.n c.args.store.now)) (neighbours c.args.n c.args.store.now c.loop-i.invariant c.requires c.loop-i-test.true t)

pub returns : goal.returns
returns c = sym (following_all c.loop-i.invariant (omega (arith, length-entries c.args.n c.args.store.now)))

use mathlib.Core.Path.{sym}
use Prim.Native.Nat.{◌+◌}
use native.Mathlib.Omega.{arith}
use borrow.Author.Tests.{lt-ltb, le-ltb}
use lib.Dec.{ltb}
use Rattle.definitions_electra.specs.Refusals.{count_of, deposits_of, keys_shaped}
use Rattle.laws_electra.proofs.Deposits.{none, length-deposits, deposit-tested}
use Rattle.refusals.proofs.All.{passed_none, passed-more, passed-stop, passed-all}
use Rattle.electra_refusals.proofs.keys_shaped.Goals as goal

pub loop-i-init : goal.loop-i-init
loop-i-init c = passed_none _ _

pub returns-then-bound-deposits : goal.returns-then-bound-deposits
unfolding keys_shaped
returns-then-bound-deposits c =
    let a = c.args in
    let xs = a.registry.now in
    let ds = a.deposits.now in
    sym (passed-stop c.loop-i.invariant (omega (arith, length-deposits ds)) none (deposit-tested (λ x. ltb x.pubkey (count_of xs + deposits_of ds)) ds c.loop-i-test.true (le-ltb _ _ c.if-bound-deposits.true)))

pub loop-i-preserved : goal.loop-i-preserved
loop-i-preserved c =
    let a = c.args in
    let xs = a.registry.now in
    let ds = a.deposits.now in
    passed-more c.loop-i.invariant (omega (arith, length-deposits ds)) none (deposit-tested (λ x. ltb x.pubkey (count_of xs + deposits_of ds)) ds c.loop-i-test.true (lt-ltb _ _ c.if-bound-deposits.false))

pub returns : goal.returns
unfolding keys_shaped
returns c = sym (passed-all c.loop-i.invariant (omega (arith, length-deposits c.args.deposits.now)))

use mathlib.Core.Path.{sym}
use native.Mathlib.Omega.{arith}
use borrow.Author.Tests.{lt-ltb, le-ltb}
use Rattle.definitions_electra.specs.Refusals.{indices_shaped}
use Rattle.laws.proofs.Tests.{and_both}
use Rattle.laws_electra.specs.Consolidations.{within}
use Rattle.laws_electra.proofs.Consolidations.{none, length_pairs, pair-tested}
use Rattle.refusals.proofs.All.{passed_none, passed-more, passed-stop, passed-all}
use Rattle.electra_refusals.proofs.indices_shaped.Goals as goal

pub loop-i-init : goal.loop-i-init
loop-i-init c = passed_none _ _

pub returns-then-n-consolidations : goal.returns-then-n-consolidations
unfolding indices_shaped
returns-then-n-consolidations c =
    let ps = c.args.consolidations.now in
    sym (passed-stop c.loop-i.invariant (omega (arith, length_pairs ps)) none (pair-tested (within _) ps c.loop-i-test.true (rw (le-ltb _ _ c.if-n-consolidations.true))))

pub returns-then-n-consolidations-2 : goal.returns-then-n-consolidations-2
unfolding indices_shaped
returns-then-n-consolidations-2 c =
    let ps = c.args.consolidations.now in
    sym (passed-stop c.loop-i.invariant (omega (arith, length_pairs ps)) none (pair-tested (within _) ps c.loop-i-test.true (rw (lt-ltb _ _ c.if-n-consolidations.false, le-ltb _ _ c.if-n-consolidations-2.true))))

pub loop-i-preserved : goal.loop-i-preserved
loop-i-preserved c =
    let ps = c.args.consolidations.now in
    passed-more c.loop-i.invariant (omega (arith, length_pairs ps)) none (pair-tested (within _) ps c.loop-i-test.true (and_both (lt-ltb _ _ c.if-n-consolidations.false) (lt-ltb _ _ c.if-n-consolidations-2.false)))

pub returns : goal.returns
unfolding indices_shaped
returns c = sym (passed-all c.loop-i.invariant (omega (arith, length_pairs c.args.consolidations.now)))

use mathlib.Core.Path.{sym}
use native.Mathlib.Omega.{arith}
use Rattle.definitions_electra.specs.Refusals.{good_deposit, good_deposits}
use Rattle.laws_electra.proofs.Deposits.{none, length-deposits, deposit-tested}
use Rattle.refusals.proofs.All.{passed_none, passed-more, passed-stop, passed-all, fails, passes}
use mathlib.Core.Path.{ap}
use mathlib.Core.Bool.{not}
use Rattle.electra_refusals.proofs.good_deposits.Goals as goal

pub loop-i-init : goal.loop-i-init
loop-i-init c = passed_none _ _

pub returns-then-not-good_deposit : goal.returns-then-not-good_deposit
unfolding good_deposits good_deposit
returns-then-not-good_deposit c =
    let ds = c.args.deposits.now in
    sym (passed-stop c.loop-i.invariant (omega (arith, length-deposits ds)) none (deposit-tested good_deposit ds c.loop-i-test.true (fails c.good_deposit.ensures (ap not c.if-not-good_deposit.true))))

pub loop-i-preserved : goal.loop-i-preserved
unfolding good_deposit
loop-i-preserved c =
    let ds = c.args.deposits.now in
    passed-more c.loop-i.invariant (omega (arith, length-deposits ds)) none (deposit-tested good_deposit ds c.loop-i-test.true (passes c.good_deposit.ensures (ap not c.if-not-good_deposit.false)))

pub returns : goal.returns
unfolding good_deposits
returns c = sym (passed-all c.loop-i.invariant (omega (arith, length-deposits c.args.deposits.now)))

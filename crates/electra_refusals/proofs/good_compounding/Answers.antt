use mathlib.Core.Path.{sym}
use borrow.Author.Tests.{le-leb, lt-leb}
use Rattle.definitions_electra.specs.Refusals.{good_compounding}
use Rattle.refusals.proofs.All.{passed_none, passed-more, passed-stop, passed-all}
use Rattle.electra_refusals.proofs.good_compounding.Goals as goal

pub loop-credential-init : goal.loop-credential-init
loop-credential-init c = passed_none _ _

pub returns-then-credential-gt1 : goal.returns-then-credential-gt1
unfolding good_compounding
returns-then-credential-gt1 c = sym (passed-stop c.loop-credential.invariant c.loop-credential-test.true 0 (lt-leb _ _ c.if-credential-gt1.true))

pub loop-credential-preserved : goal.loop-credential-preserved
loop-credential-preserved c = passed-more c.loop-credential.invariant c.loop-credential-test.true 0 (le-leb _ _ c.if-credential-gt1.false)

pub returns : goal.returns
unfolding good_compounding
returns c = sym (passed-all c.loop-credential.invariant c.loop-credential-test.false)

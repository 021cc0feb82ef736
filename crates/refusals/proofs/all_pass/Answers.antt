use mathlib.Core.Bool.{false}
use mathlib.Core.Path.{sym, ◌∙◌}
use Rattle.laws.proofs.Tests.{every-all}
use Rattle.refusals.proofs.All.{passed_none, passed-more, passed-stop, passed-all}
use borrow.Author.Tests.{not-true, not-false}
use mathlib.Core.Path.{ap}
use mathlib.Core.Bool.{not}
use Rattle.refusals.proofs.all_pass.Goals as goal

pub loop-test-init : goal.loop-test-init
loop-test-init c = passed_none _ _

pub returns-then-not-test : goal.returns-then-not-test
returns-then-not-test c = sym (every-all _ ∙ passed-stop c.loop-test.invariant c.loop-test-test.true false (not-true _ (ap not c.if-not-test.true)))

pub loop-test-preserved : goal.loop-test-preserved
loop-test-preserved c = passed-more c.loop-test.invariant c.loop-test-test.true false (not-false _ (ap not c.if-not-test.false))

pub returns : goal.returns
returns c = sym (every-all _ ∙ passed-all c.loop-test.invariant c.loop-test-test.false)

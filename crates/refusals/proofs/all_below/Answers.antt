use mathlib.Core.Path.{sym}
use Prim.Native.Nat.{◌-◌}
use borrow.Author.Tests.{lt-ltb, le-ltb}
use Rattle.refusals.proofs.All.{passed_none, passed-more, passed-stop, passed-all}
use Rattle.refusals.proofs.all_below.Goals as goal

pub loop-n-init : goal.loop-n-init
loop-n-init c = passed_none _ _

pub returns-then-bound-n : goal.returns-then-bound-n
returns-then-bound-n c = sym (passed-stop c.loop-n.invariant c.loop-n-test.true 0 (le-ltb _ _ c.if-bound-n.true))

pub loop-n-preserved : goal.loop-n-preserved
loop-n-preserved c = passed-more c.loop-n.invariant c.loop-n-test.true 0 (lt-ltb _ _ c.if-bound-n.false)

pub returns : goal.returns
returns c = sym (passed-all c.loop-n.invariant c.loop-n-test.false)

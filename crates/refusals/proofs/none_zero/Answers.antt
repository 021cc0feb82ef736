use mathlib.Core.Bool.{not}
use mathlib.Core.Path.{sym, ap}
use Prim.Native.Nat.{◌-◌}
use borrow.Author.Tests.{eq-eqb, ne_eqb}
use Rattle.refusals.proofs.All.{passed_none, passed-more, passed-stop, passed-all}
use Rattle.refusals.proofs.none_zero.Goals as goal

pub loop-n-init : goal.loop-n-init
loop-n-init c = passed_none _ _

pub returns-then-n-eq0 : goal.returns-then-n-eq0
returns-then-n-eq0 c = sym (passed-stop c.loop-n.invariant c.loop-n-test.true 0 (ap not (eq-eqb _ _ c.if-n-eq0.true)))

pub loop-n-preserved : goal.loop-n-preserved
loop-n-preserved c = passed-more c.loop-n.invariant c.loop-n-test.true 0 (ap not (ne_eqb _ _ c.if-n-eq0.false))

pub returns : goal.returns
returns c = sym (passed-all c.loop-n.invariant c.loop-n-test.false)

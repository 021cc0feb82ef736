use Rattle.definitions.specs.Refusals.{in_order}
use Rattle.refusals.proofs.All.{fails, passes}
use mathlib.Core.Path.{ap}
use mathlib.Core.Bool.{not}
use Rattle.refusals.proofs.in_order.Goals as goal

pub returns-then-not-all_pass : goal.returns-then-not-all_pass
unfolding in_order
returns-then-not-all_pass c = rw (fails c.all_pass.ensures (ap not c.if-not-all_pass.true))

pub returns-then-not-all_pass-2 : goal.returns-then-not-all_pass-2
unfolding in_order
returns-then-not-all_pass-2 c = rw (passes c.all_pass.ensures (ap not c.if-not-all_pass.false), fails c.all_pass-2.ensures (ap not c.if-not-all_pass-2.true))

pub returns-then-not-all_pass-3 : goal.returns-then-not-all_pass-3
unfolding in_order
returns-then-not-all_pass-3 c = rw (passes c.all_pass.ensures (ap not c.if-not-all_pass.false), passes c.all_pass-2.ensures (ap not c.if-not-all_pass-2.false), fails c.all_pass-3.ensures (ap not c.if-not-all_pass-3.true))

pub returns : goal.returns
unfolding in_order
returns c = rw (passes c.all_pass.ensures (ap not c.if-not-all_pass.false), passes c.all_pass-2.ensures (ap not c.if-not-all_pass-2.false), passes c.all_pass-3.ensures (ap not c.if-not-all_pass-3.false))

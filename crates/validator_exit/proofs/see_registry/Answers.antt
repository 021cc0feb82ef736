use native.Mathlib.Omega.{arith}
use borrow.Author.Tests.{not-true, not-false}
use Rattle.laws.proofs.Loops.Reading.{reading_ten}
use Rattle.exit_queue.proofs.QueueOf.{tracking_few}
use Rattle.validator_exit.proofs.Seeing.{seeing_none, seeing_few, seeing_more, seeing_stop, seeing_all}
use mathlib.Core.Path.{ap}
use mathlib.Core.Bool.{not}
use Rattle.validator_exit.proofs.see_registry.Goals as goal

pub loop-i-init : goal.loop-i-init
loop-i-init c = seeing_none _ c.requires

pub good_entry-requires : goal.good_entry-requires
good_entry-requires c = reading_ten c.loop-i.invariant.good.at c.loop-i-test.true

pub returns-then-not-good_entry : goal.returns-then-not-good_entry
returns-then-not-good_entry c = seeing_stop c.loop-i.invariant c.loop-i-test.true c.good_entry.ensures (not-true _ (ap not c.if-not-good_entry.true))

pub entry_is_active-on-requires : goal.entry_is_active-on-requires
entry_is_active-on-requires c = reading_ten c.loop-i.invariant.good.at c.loop-i-test.true

pub exited-queue-requires : goal.exited-queue-requires
exited-queue-requires c = omega (arith, tracking_few c.loop-i.invariant.pair)

pub loop-i-preserved : goal.loop-i-preserved
loop-i-preserved c = seeing_more c.loop-i.invariant c.loop-i-test.true c.good_entry.ensures (not-false _ (ap not c.if-not-good_entry.false)) c.entry_is_active-on.ensures c.count_if-active.ensures c.exited-queue.ensures

pub returns : goal.returns
returns c = seeing_all c.loop-i.invariant c.loop-i-test.false

pub count_if-active-requires : goal.count_if-active-requires
count_if-active-requires c = omega (arith, seeing_few c.loop-i.invariant)

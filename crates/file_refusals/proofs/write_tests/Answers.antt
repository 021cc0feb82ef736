use mathlib.Core.Path.{◌≡◌}
use Rattle.definitions_file.specs.File.{contents_with}
use Rattle.refusals.proofs.All.{fails, passes}
use Rattle.file_refusals.proofs.WriteTests.{others, others-refused, tens, queue-tested}
use mathlib.Core.Path.{ap}
use mathlib.Core.Bool.{not}
use Rattle.file_refusals.proofs.write_tests.Goals.{After-in_order}
use Rattle.file_refusals.proofs.write_tests.Goals as goal

tested : (c : After-in_order) → let a = c.args in c.in_order.result ≡ others (contents_with a.settings a.finality a.registry.now a.roots.now a.slashings.now) a.file.now
tested c =
    rw (← c.settings_shaped.ensures, ← c.registry_shaped.ensures, ← c.roots_shaped.ensures, ← c.as_long.ensures, ← c.good_settings.ensures, ← c.good_finality.ensures, ← c.good_registry.ensures) c.in_order.ensures

pub returns-in_err-in_order : goal.returns-in_err-in_order
returns-in_err-in_order c = others-refused _ _ _ (tested (goal.at.returns-in_err-in_order c).After-in_order) c.in_err-in_order.was c.from_residual.ensures

pub queue_of-own-requires : goal.queue_of-own-requires
queue_of-own-requires c = let a = c.args in tens (contents_with a.settings a.finality a.registry.now a.roots.now a.slashings.now) a.queue a.file.now (tested (goal.at.queue_of-own-requires c).After-in_order) c.in_ok-in_order.was

pub returns-then-not-same_queue : goal.returns-then-not-same_queue
returns-then-not-same_queue c = queue-tested _ _ _ (tested (goal.at.returns-then-not-same_queue c).After-in_order) c.in_ok-in_order.was c.queue_of-own.ensures (fails c.same_queue.ensures (ap not c.if-not-same_queue.true))

pub returns : goal.returns
returns c = queue-tested _ _ _ (tested (goal.at.returns c).After-in_order) c.in_ok-in_order.was c.queue_of-own.ensures (passes c.same_queue.ensures (ap not c.if-not-same_queue.false))

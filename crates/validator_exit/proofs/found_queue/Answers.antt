use Rattle.refusals.proofs.All.{fails, passes}
use Rattle.refusals.proofs.Laws.{registry-shaped}
use Rattle.validator_exit.proofs.Found.{found-shape, found_record, found-pair}
use mathlib.Core.Path.{ap}
use mathlib.Core.Bool.{not}
use Rattle.validator_exit.proofs.found_queue.Goals as goal

pub returns-then-not-registry_shaped : goal.returns-then-not-registry_shaped
returns-then-not-registry_shaped c = found-shape _ (fails c.registry_shaped.ensures (ap not c.if-not-registry_shaped.true)) c.number.ensures

pub see_registry-requires : goal.see_registry-requires
see_registry-requires c = (registry-shaped _ (passes c.registry_shaped.ensures (ap not c.if-not-registry_shaped.false))).long

pub returns-in-Err : goal.returns-in-Err
returns-in-Err c = found_record _ (passes c.registry_shaped.ensures (ap not c.if-not-registry_shaped.false)) _ c.see_registry.ensures c.in-Err.is c.number-in-Err.ensures

pub returns-in-Ok : goal.returns-in-Ok
returns-in-Ok c = found-pair _ (passes c.registry_shaped.ensures (ap not c.if-not-registry_shaped.false)) _ c.see_registry.ensures c.in-Ok.is

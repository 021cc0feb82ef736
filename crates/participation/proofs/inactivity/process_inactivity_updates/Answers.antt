use mathlib.Core.Path.{ap}
use native.Mathlib.Omega.{arith}
use lib.ListN.{length}
use Rattle.arithmetic.proofs.Laws.{carried}
use Rattle.definitions.specs.Record.{encode}
use Rattle.definitions.specs.Rust.Altair.EpochProcessing.{process_inactivity_updates}
use Rattle.refusals.proofs.buffers.Closes.{closes-refused, step-put_back}
use Rattle.leaf_refusals.proofs.registry_refusals.Passed.{registry-passed}
use Rattle.participation.proofs.inactivity.process_inactivity_updates.Goals as goal

pub returns-in_err-registry_tests : goal.returns-in_err-registry_tests
returns-in_err-registry_tests c = rw (carried _ c.from_residual.ensures) (closes-refused encode _ c.registry_tests.ensures _ c.in_err-registry_tests.was)

pub copy-requires : goal.copy-requires
copy-requires c = let p = registry-passed _ _ _ _ _ c.registry_tests.ensures c.in_ok-registry_tests.was in p.same

pub inactivity_core-done-requires : goal.inactivity_core-done-requires
inactivity_core-done-requires c =
    let p = registry-passed _ _ _ _ _ c.registry_tests.ensures c.in_ok-registry_tests.was in
    record { s_value = p.opened.settings.good; registry_len = omega (arith, p.opened.shape.long, ap length c.copy.ensures) }

pub put_back-requires : goal.put_back-requires
put_back-requires c = omega (arith, (registry-passed _ _ _ _ _ c.registry_tests.ensures c.in_ok-registry_tests.was).same)

pub returns : goal.returns
returns c =
    let a = c.args in
    step-put_back (process_inactivity_updates a.s a.state_slot a.finalized_epoch) _ c.registry_tests.ensures c.in_ok-registry_tests.was c.copy.ensures c.inactivity_core-done.ensures c.put_back.ensures

use native.Mathlib.Omega.{arith}
use Rattle.arithmetic.proofs.Laws.{carried}
use Rattle.definitions.specs.Record.{encode}
use Rattle.definitions.specs.Rules.{settings_under}
use Rattle.definitions.specs.Rust.Altair.EpochProcessing.{process_slashings}
use Rattle.refusals.proofs.buffers.Closes.{closes-refused, step-put_back}
use Rattle.slashings.proofs.Passed.{slashings-passed}
use Rattle.slashings.proofs.process_slashings.Goals as goal

pub returns-in_err-slashings_tests : goal.returns-in_err-slashings_tests
returns-in_err-slashings_tests c = rw (carried _ c.from_residual.ensures) (closes-refused encode _ c.slashings_tests.ensures _ c.in_err-slashings_tests.was)

pub copy-requires : goal.copy-requires
copy-requires c = (slashings-passed _ _ _ _ _ c.slashings_tests.ensures c.in_ok-slashings_tests.was).same

pub slashings_core-done-requires : goal.slashings_core-done-requires
slashings_core-done-requires c =
    let p = slashings-passed _ _ _ _ _ c.slashings_tests.ensures c.in_ok-slashings_tests.was in
    (rw c.copy.ensures p.shape.long, rw c.settings_under-s.ensures p.good)

pub put_back-requires : goal.put_back-requires
put_back-requires c = omega (arith, (slashings-passed _ _ _ _ _ c.slashings_tests.ensures c.in_ok-slashings_tests.was).same)

pub returns : goal.returns
returns c =
    let a = c.args in
    let s = settings_under a.rules in
    step-put_back (process_slashings s s.proportional_slashing_multiplier_altair a.state_slot a.slashings.now) _ c.slashings_tests.ensures c.in_ok-slashings_tests.was c.copy.ensures (rw c.settings_under-s.ensures at c.slashings_core-done.ensures) c.put_back.ensures

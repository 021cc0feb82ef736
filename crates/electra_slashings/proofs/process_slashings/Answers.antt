use native.Mathlib.Omega.{arith}
use Rattle.arithmetic.proofs.Laws.{carried}
use Rattle.refusals.proofs.buffers.Closes.{closes-refused, step-put_back}
use Rattle.definitions_electra.specs.Calls.{registry_in}
use Rattle.laws_electra.proofs.Registry.{closes_in}
use Rattle.electra_refusals.proofs.Passed.{good-electra, slashings-passed}
use Rattle.electra_slashings.specs.Slashed.{slashed_registry}
use Rattle.electra_slashings.proofs.Slashed.{lent, work-by}
use Rattle.electra_slashings.proofs.process_slashings.Goals as goal

pub returns-in_err-slashings_tests : goal.returns-in_err-slashings_tests
returns-in_err-slashings_tests c = rw (carried _ c.from_residual.ensures) (closes-refused registry_in _ c.slashings_tests.ensures _ c.in_err-slashings_tests.was)

pub copy-requires : goal.copy-requires
copy-requires c = (slashings-passed _ _ _ _ _ c.slashings_tests.ensures c.in_ok-slashings_tests.was).same

pub slashings_core-done-requires : goal.slashings_core-done-requires
slashings_core-done-requires c =
    let p = slashings-passed _ _ _ _ _ c.slashings_tests.ensures c.in_ok-slashings_tests.was in
    (rw c.copy.ensures p.shape.long, (good-electra _ p.good).settings)

pub put_back-requires : goal.put_back-requires
put_back-requires c = omega (arith, (slashings-passed _ _ _ _ _ c.slashings_tests.ensures c.in_ok-slashings_tests.was).same)

pub returns : goal.returns
returns c =
    let a = c.args in
    let step = slashed_registry a.rules.settings a.rules.bellatrix.proportional_slashing_multiplier_bellatrix a.state_slot a.slashings.now in
    rw (work-by a.rules a.state_slot a.slashings.now a.opening.now)
    (closes_in (lent a.state_slot a.slashings.now a.opening.now) _ _ (step-put_back step _ c.slashings_tests.ensures c.in_ok-slashings_tests.was c.copy.ensures c.slashings_core-done.ensures c.put_back.ensures))

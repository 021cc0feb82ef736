use mathlib.Core.Path.{ap}
use Rattle.definitions.specs.Checked.{value}
use Rattle.leaf_refusals.proofs.registry_refusals.Passed.{slot_registry_passed}
use Rattle.refusals.proofs.Answers.{then-answers, refused-answers}
use Rattle.totals.proofs.charged.Goals as goal

pub returns-in_err-slot_registry_tests : goal.returns-in_err-slot_registry_tests
returns-in_err-slot_registry_tests c = refused-answers _ c.slot_registry_tests.ensures _ c.in_err-slot_registry_tests.was c.from_residual.ensures

pub charged_count-count-requires : goal.charged_count-count-requires
charged_count-count-requires c =
    let passed = slot_registry_passed _ _ _ c.slot_registry_tests.ensures c.in_ok-slot_registry_tests.was in
    record { registry_len = passed.shape.long; slots_per_epoch_nonzero = passed.positive.slots_per_epoch }

pub returns : goal.returns
returns c = then-answers _ c.slot_registry_tests.ensures c.in_ok-slot_registry_tests.was (ap value c.charged_count-count.ensures)

use mathlib.Core.Path.{ap}
use Rattle.definitions.specs.Checked.{value}
use Rattle.leaf_refusals.proofs.registry_refusals.Passed.{slot_registry_passed}
use Rattle.refusals.proofs.Answers.{then-answers, refused-answers}
use Rattle.totals.proofs.get_validator_churn_limit.Goals as goal

pub returns-in_err-slot_registry_tests : goal.returns-in_err-slot_registry_tests
returns-in_err-slot_registry_tests c = refused-answers _ c.slot_registry_tests.ensures _ c.in_err-slot_registry_tests.was c.from_residual.ensures

pub churn_limit-limit-requires : goal.churn_limit-limit-requires
churn_limit-limit-requires c =
    let p = slot_registry_passed _ _ _ c.slot_registry_tests.ensures c.in_ok-slot_registry_tests.was in
    record { registry_len = p.shape.long; slots_per_epoch_nonzero = (p.positive.slots_per_epoch, p.positive.churn_limit_quotient) }

pub returns : goal.returns
returns c = then-answers _ c.slot_registry_tests.ensures c.in_ok-slot_registry_tests.was (ap value c.churn_limit-limit.ensures)

use Rattle.refusals.proofs.Answers.{then-answers, refused-answers}
use Rattle.electra_refusals.proofs.Passed.{good-electra, slot_registry_passed}
use Rattle.electra_registry.proofs.leaves.get_activation_exit_churn_limit.Goals as goal

pub returns-in_err-slot_registry_tests : goal.returns-in_err-slot_registry_tests
returns-in_err-slot_registry_tests c = refused-answers _ c.slot_registry_tests.ensures _ c.in_err-slot_registry_tests.was c.from_residual.ensures

pub activation_exit_churn-requires : goal.activation_exit_churn-requires
activation_exit_churn-requires c =
    let p = slot_registry_passed _ _ _ c.slot_registry_tests.ensures c.in_ok-slot_registry_tests.was in
    (p.shape.long, (good-electra _ p.good).settings)

pub returns : goal.returns
returns c = then-answers _ c.slot_registry_tests.ensures c.in_ok-slot_registry_tests.was c.activation_exit_churn.ensures

use mathlib.Core.Path.{sym, ◌∙◌}
use Rattle.refusals.proofs.Laws.{small}
use Rattle.registry.proofs.Epochs.{epochs}
use Rattle.electra_refusals.proofs.Passed.{slot_registry_passed}
use Rattle.electra_registry.proofs.Text.{churn-text}
use Rattle.electra_registry.proofs.Closes.{answer-refused, answer-told}
use Rattle.electra_registry.proofs.leaves.compute_exit_epoch_and_update_churn.Goals as goal

pub returns-in-Err : goal.returns-in-Err
returns-in-Err c = answer-refused _ _ _ c.slot_registry_tests.ensures c.in-Err.is c.exit_churn_answer.ensures

pub registry_numbers-n-requires : goal.registry_numbers-n-requires
registry_numbers-n-requires c =
    let p = slot_registry_passed _ _ _ c.slot_registry_tests.ensures c.in_default.is in
    (p.shape.long, p.good, small _ p.settings.small)

pub returns : goal.returns
returns c =
    let p = slot_registry_passed _ _ _ c.slot_registry_tests.ensures c.in_default.is in
    let text = churn-text _ _ p.good (epochs _ _ p.settings.good (small _ p.settings.small)) _ _ _ in
    answer-told _ _ _ c.slot_registry_tests.ensures c.in_default.is ((rw c.registry_numbers-n.ensures at c.exit_churn-after.ensures) ∙ sym text) c.exit_churn_answer-2.ensures

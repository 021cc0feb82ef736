use mathlib.Core.Path.{sym, ◌∙◌}
use Rattle.refusals.proofs.Laws.{small}
use Rattle.electra_refusals.proofs.Passed.{registry-passed}
use Rattle.electra_registry.proofs.Closes.{back, kept, churn-refused, churn-closes}
use Rattle.electra_registry.proofs.process_registry_updates.Goals.{then-is_err, else-is_err}
use Rattle.electra_registry.proofs.process_registry_updates.Goals as goal

pub returns-in-Err : goal.returns-in-Err
returns-in-Err c = churn-refused _ _ c.registry_tests.ensures c.in-Err.is c.exit_churn_answer.ensures

pub copy-requires : goal.copy-requires
copy-requires c = (registry-passed _ _ _ _ _ c.registry_tests.ensures c.in_default.is).same

pub update_registry-done-requires : goal.update_registry-done-requires
update_registry-done-requires c =
    let p = registry-passed _ _ _ _ _ c.registry_tests.ensures c.in_default.is in
    (rw c.copy.ensures p.shape.long, p.good, small _ p.settings.small)

pub returns : goal.returns
returns c =
    churn-closes _ _ c.registry_tests.ensures c.in_default.is (rw c.copy.ensures at c.update_registry-done.ensures)
    (elim c.if-is_err.branch [ then-is_err w ↦ back _ _ (sym c.is_err.ensures.value ∙ w.if-is_err.true) (w.closing-is ∙ w.copy-then-is_err.ensures) | else-is_err w ↦ kept _ _ (sym c.is_err.ensures.value ∙ w.if-is_err.false) w.closing-is ])
    c.exit_churn_answer-2.ensures

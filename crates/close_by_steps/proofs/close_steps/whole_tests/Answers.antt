use mathlib.Core.Path.{sym, ap, ◌∙◌}
use Rattle.definitions.specs.declared.ActivationLimit.TheVariants.{Churn}
use Rattle.definitions.specs.Checked.{done}
use Rattle.arithmetic.proofs.Laws.{carried}
use Rattle.refusals.proofs.Answers.{after-passed}
use Rattle.validator_exit.proofs.Tests.{pass-tested, pass-found}
use Rattle.close.specs.Called.{called}
use Rattle.close.proofs.Lent.{lent, record_refused, entries-tested}
use Rattle.full_close.specs.Called.{full_called}
use Rattle.full_close.proofs.Tests.{amounts-refused, close-refused, queue-tested}
use Rattle.close_by_steps.proofs.close_steps.whole_tests.Goals as goal

pub returns-then-amounts-registry : goal.returns-then-amounts-registry
returns-then-amounts-registry c = sym (amounts-refused Churn (full_called _ _ _ _ _ _ _ _ _) c.if-amounts-registry.true)

pub returns-in_err-record_tests : goal.returns-in_err-record_tests
returns-in_err-record_tests c = carried _ c.from_residual.ensures ∙ sym (close-refused Churn (full_called _ _ _ _ _ _ _ _ _) c.if-amounts-registry.false (record_refused Churn _ c.record_tests.ensures c.in_err-record_tests.was))

pub see_registry-requires : goal.see_registry-requires
see_registry-requires c = let a = c.args in (lent Churn (called a.rules a.finality a.registry.now a.slashings.now a.roots.now a.closing_registry.now a.closing_slashings.now) c.record_tests.ensures c.in_ok-record_tests.was).opening.registry

pub returns-in_err-seen : goal.returns-in_err-seen
returns-in_err-seen c =
    let tests = entries-tested Churn _ c.record_tests.ensures c.in_ok-record_tests.was (pass-tested _ _ c.see_registry.ensures) in
    carried _ c.from_residual-in_err-seen.ensures ∙ sym (close-refused Churn (full_called _ _ _ _ _ _ _ _ _) c.if-amounts-registry.false (sym tests ∙ ap done c.in_err-seen.was))

pub returns : goal.returns
returns c =
    let tests = entries-tested Churn _ c.record_tests.ensures c.in_ok-record_tests.was (pass-tested _ _ c.see_registry.ensures) in
    let found = (pass-found _ _ c.see_registry.ensures c.in_ok-seen.was).1 in
    queue-tested Churn (full_called _ _ _ _ _ _ _ _ _) c.if-amounts-registry.false tests found c.queue_refusal.ensures (sym (after-passed _ _ {x = done c.see_registry.result} (λ i. done c.see_registry.result) (ap done c.in_ok-seen.was)))

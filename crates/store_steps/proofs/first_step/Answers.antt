-- the call, and that its rules were asked
use mathlib.Core.Path.{◌≡◌, ap, ◌∙◌}
use Rattle.definitions_close.specs.Store.{rules_answer_for}
use Rattle.definitions_close.specs.StoreClose.{rules_for}
use Rattle.definitions_close.specs.StoreSteps.{StoreStepCall}
use Rattle.definitions_close.specs.Calls.{lent, store_called, store_step_called}
use Rattle.store.proofs.store_rules.Given.{rules-with}
use Rattle.store_steps.proofs.Steps.{first_by, first-turned}
use Rattle.store_steps.proofs.first_step.Goals.{After-rules_for-found}
use Rattle.store_steps.proofs.first_step.Goals as goal

abbrev call : After-rules_for-found → StoreStepCall
call c =
    let a = c.args in
    store_step_called a.number a.running (store_called (lent a.store.now a.count) a.finality a.queue a.registry.now a.slashings.now a.roots.now a.closing_registry.now a.closing_slashings.now a.amounts.now)

asked : (c : After-rules_for-found) → c.rules_for-found.result ≡ rules_answer_for (rules_for (call c).whole)
asked c = c.rules_for-found.ensures ∙ ap rules_answer_for (rules-with (call c).whole)

pub returns-then-refusal-ne0 : goal.returns-then-refusal-ne0
returns-then-refusal-ne0 c = first-turned (call (goal.at.returns-then-refusal-ne0 c).After-rules_for-found) (asked (goal.at.returns-then-refusal-ne0 c).After-rules_for-found) c.requires c.if-refusal-ne0.true c.ended_by.ensures

pub returns : goal.returns
returns c =
    c.close_step.ensures ∙ first_by (call (goal.at.returns c).After-rules_for-found) (asked (goal.at.returns c).After-rules_for-found) c.if-refusal-ne0.false

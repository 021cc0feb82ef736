-- the call, and that its rules were asked
use mathlib.Core.Path.{◌≡◌, ap, ◌∙◌}
use Rattle.definitions_close.specs.Store.{rules_answer_for}
use Rattle.definitions_close.specs.StoreClose.{StoreCall, rules_for}
use Rattle.definitions_close.specs.Calls.{lent, store_called}
use Rattle.store.proofs.store_rules.Given.{rules-with}
use Rattle.store_steps.proofs.store_close.Closes.{turned-away, closed-by}
use Rattle.store_steps.proofs.store_close.store_close.Goals.{After-rules_for-found}
use Rattle.store_steps.proofs.store_close.store_close.Goals as goal

abbrev call : After-rules_for-found → StoreCall
call c =
    let a = c.args in
    store_called (lent a.store.now a.count) a.finality a.queue a.registry.now a.slashings.now a.roots.now a.closing_registry.now a.closing_slashings.now a.amounts.now

asked : (c : After-rules_for-found) → c.rules_for-found.result ≡ rules_answer_for (rules_for (call c))
asked c = c.rules_for-found.ensures ∙ ap rules_answer_for (rules-with (call c))

pub returns-then-refusal-ne0 : goal.returns-then-refusal-ne0
returns-then-refusal-ne0 c = turned-away (call (goal.at.returns-then-refusal-ne0 c).After-rules_for-found) (asked (goal.at.returns-then-refusal-ne0 c).After-rules_for-found) c.none_raised.ensures c.if-refusal-ne0.true

pub returns : goal.returns
returns c =
    c.full_close.ensures ∙ closed-by (call (goal.at.returns c).After-rules_for-found) (asked (goal.at.returns c).After-rules_for-found) c.if-refusal-ne0.false

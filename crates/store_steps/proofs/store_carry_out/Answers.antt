use mathlib.Core.Path.{◌≡◌, ap, ◌∙◌}
use borrow.Author.Tests.{eq-eqb, ne_eqb}
use Rattle.definitions_close.specs.Store.{rules_answer_for}
use Rattle.definitions_close.specs.StoreSteps.{StoreNinthCall, ninth_rules, store_carry_out}
use Rattle.definitions_close.specs.Calls.{lent, store_ninth_called}
use Rattle.store_steps.proofs.Steps.{ninth-with, ninth-turned, ninth-by}
use Rattle.store_steps.proofs.store_carry_out.Goals.{After-ninth_rules-found}
use Rattle.store_steps.proofs.store_carry_out.Goals as goal

-- the call, and that its rules were asked
abbrev call : After-ninth_rules-found → StoreNinthCall
call c =
    let a = c.args in
    store_ninth_called (lent a.store.now a.count) a.shard_committee_period a.running a.closing_registry.now a.orders.now a.answers.now

asked : (c : After-ninth_rules-found) → c.ninth_rules-found.result ≡ rules_answer_for (ninth_rules (call c))
asked c = c.ninth_rules-found.ensures ∙ ap rules_answer_for (ninth-with (call c))

pub returns-then-done-eq9 : goal.returns-then-done-eq9
unfolding store_carry_out
returns-then-done-eq9 c = rw (eq-eqb _ _ c.if-done-eq9.true)

pub returns-then-done-ne8 : goal.returns-then-done-ne8
unfolding store_carry_out
returns-then-done-ne8 c = rw (ne_eqb _ _ c.if-done-eq9.false, ne_eqb _ _ c.if-done-ne8.true, c.turned_away.ensures)

pub returns-then-refusal-ne0 : goal.returns-then-refusal-ne0
returns-then-refusal-ne0 c =
    ninth-turned (call (goal.at.returns-then-refusal-ne0 c).After-ninth_rules-found) (asked (goal.at.returns-then-refusal-ne0 c).After-ninth_rules-found) c.if-done-ne8.false c.if-refusal-ne0.true

pub returns : goal.returns
returns c =
    c.carry_out.ensures ∙ ninth-by (call (goal.at.returns c).After-ninth_rules-found) (asked (goal.at.returns c).After-ninth_rules-found) c.if-done-ne8.false c.if-refusal-ne0.false

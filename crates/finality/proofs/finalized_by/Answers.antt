use mathlib.Core.Path.{sym, ◌∙◌}
use Rattle.finality.proofs.Runs.{finalized_by-runs}
use Rattle.finality.proofs.finalized_by.Goals as goal

pub returns-then-is_linked : goal.returns-then-is_linked
returns-then-is_linked c = rw (finalized_by-runs, sym c.is_linked.ensures ∙ c.if-is_linked.true)

pub returns-then-is_linked-2 : goal.returns-then-is_linked-2
returns-then-is_linked-2 c = rw (finalized_by-runs, sym c.is_linked.ensures ∙ c.if-is_linked.false, sym c.is_linked-2.ensures ∙ c.if-is_linked-2.true)

pub returns-then-is_linked-3 : goal.returns-then-is_linked-3
returns-then-is_linked-3 c = rw (finalized_by-runs, sym c.is_linked.ensures ∙ c.if-is_linked.false, sym c.is_linked-2.ensures ∙ c.if-is_linked-2.false, sym c.is_linked-3.ensures ∙ c.if-is_linked-3.true)

pub returns-then-is_linked-4 : goal.returns-then-is_linked-4
returns-then-is_linked-4 c = rw (finalized_by-runs, sym c.is_linked.ensures ∙ c.if-is_linked.false, sym c.is_linked-2.ensures ∙ c.if-is_linked-2.false, sym c.is_linked-3.ensures ∙ c.if-is_linked-3.false, sym c.is_linked-4.ensures ∙ c.if-is_linked-4.true)

pub returns : goal.returns
returns c = rw (finalized_by-runs, sym c.is_linked.ensures ∙ c.if-is_linked.false, sym c.is_linked-2.ensures ∙ c.if-is_linked-2.false, sym c.is_linked-3.ensures ∙ c.if-is_linked-3.false, sym c.is_linked-4.ensures ∙ c.if-is_linked-4.false)

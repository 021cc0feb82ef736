use borrow.Author.Tests.{eq-eqb, ne_eqb}
use Rattle.electra_registry.proofs.updates.entry_is_queued.Goals as goal

pub returns-then-entry : goal.returns-then-entry
returns-then-entry c = rw (ne_eqb _ _ c.if-entry.true)

pub returns : goal.returns
returns c = rw (eq-eqb _ _ c.if-entry.false)

use mathlib.Core.Path.{sym, ◌∙◌}
use borrow.Author.Tests.{eq-eqb, ne_eqb}
use Rattle.definitions.specs.Document.Phase0.EpochProcessing.{is_eligible}
use Rattle.entries.proofs.Numbers.{none_before, before_last}
use Rattle.entries.proofs.entry_is_eligible.Goals as goal

pub returns-then-entry_is_active : goal.returns-then-entry_is_active
unfolding is_eligible
returns-then-entry_is_active c = rw (sym c.entry_is_active.ensures ∙ c.if-entry_is_active.true)

pub returns-then-entry-ne1 : goal.returns-then-entry-ne1
unfolding is_eligible
returns-then-entry-ne1 c = rw (sym c.entry_is_active.ensures ∙ c.if-entry_is_active.false, ne_eqb _ _ c.if-entry-ne1.true)

pub returns-then-entry-eq0 : goal.returns-then-entry-eq0
unfolding is_eligible
returns-then-entry-eq0 c = rw (sym c.entry_is_active.ensures ∙ c.if-entry_is_active.false, eq-eqb _ _ c.if-entry-ne1.false, none_before _ _ c.if-entry-eq0.true)

pub returns : goal.returns
unfolding is_eligible
returns c = rw (sym c.entry_is_active.ensures ∙ c.if-entry_is_active.false, eq-eqb _ _ c.if-entry-ne1.false) (before_last _ _ c.if-entry-eq0.false)

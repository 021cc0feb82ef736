use mathlib.Core.Path.{sym, ◌∙◌}
use native.Mathlib.Omega.{arith}
use borrow.Author.Tests.{eq-eqb, ne_eqb}
use Rattle.selection.specs.Keep.{waiting_since}
use Rattle.selection.proofs.waiting_since.Goals as goal

pub returns-then-entry : goal.returns-then-entry
unfolding waiting_since
returns-then-entry c = rw (ne_eqb _ _ c.if-entry.true)

pub returns-then-becomes_eligible : goal.returns-then-becomes_eligible
unfolding waiting_since
returns-then-becomes_eligible c = rw (eq-eqb _ _ c.if-entry.false, sym c.becomes_eligible.ensures ∙ c.if-becomes_eligible.true) (omega arith)

pub returns : goal.returns
unfolding waiting_since
returns c = rw (eq-eqb _ _ c.if-entry.false, sym c.becomes_eligible.ensures ∙ c.if-becomes_eligible.false)

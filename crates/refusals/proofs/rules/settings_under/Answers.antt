use borrow.Author.Tests.{eq-eqb, ne_eqb}
use Rattle.definitions.specs.Rules.{settings_under}
use Rattle.refusals.proofs.rules.settings_under.Goals as goal

pub returns-then-rules-eq0 : goal.returns-then-rules-eq0
unfolding settings_under
returns-then-rules-eq0 c = rw (eq-eqb _ _ c.if-rules-eq0.true)

pub returns : goal.returns
unfolding settings_under
returns c = rw (ne_eqb _ _ c.if-rules-eq0.false)

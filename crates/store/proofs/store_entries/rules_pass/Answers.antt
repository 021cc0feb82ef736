use borrow.Author.Tests.{eq-eqb, ne_eqb}
use Rattle.store.proofs.store_entries.rules_pass.Goals as goal

pub returns-then-test-eq1 : goal.returns-then-test-eq1
returns-then-test-eq1 c = rw (eq-eqb _ _ c.if-test-eq1.true) c.rules_shaped.ensures

pub returns : goal.returns
returns c = rw (ne_eqb _ _ c.if-test-eq1.false) c.good_rules.ensures

use borrow.Author.Tests.{eq-eqb, ne_eqb}
use Rattle.definitions_electra.specs.Document.Electra.Helpers.{get_max_effective_balance}
use Rattle.electra_balances.proofs.own_settings.Goals as goal

pub returns-then-compounding-eq1 : goal.returns-then-compounding-eq1
unfolding get_max_effective_balance
returns-then-compounding-eq1 c = rw (eq-eqb _ _ c.if-compounding-eq1.true) c.within.ensures

pub returns : goal.returns
unfolding get_max_effective_balance
returns c = rw (ne_eqb _ _ c.if-compounding-eq1.false) c.within-2.ensures

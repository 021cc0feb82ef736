use borrow.Author.Tests.{eq-eqb, ne_eqb}
use Rattle.electra_sixth.proofs.place_of.Goals as goal

pub returns-then-op-eq1 : goal.returns-then-op-eq1
returns-then-op-eq1 c = rw (eq-eqb c.args.op 1 c.if-op-eq1.true)

pub returns : goal.returns
returns c = rw (ne_eqb c.args.op 1 c.if-op-eq1.false)

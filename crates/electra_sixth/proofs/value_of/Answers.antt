use native.Mathlib.Omega.{arith}
use borrow.Author.Tests.{eq-eqb, ne_eqb}
use Rattle.electra_sixth.specs.Named.{value_by}
use Rattle.electra_sixth.proofs.value_of.Goals as goal

pub returns-then-op-eq0 : goal.returns-then-op-eq0
unfolding value_by
returns-then-op-eq0 c = rw (eq-eqb c.args.op 0 c.if-op-eq0.true)

pub returns-then-op-ne1 : goal.returns-then-op-ne1
unfolding value_by
returns-then-op-ne1 c = rw (ne_eqb c.args.op 0 c.if-op-eq0.false, ne_eqb c.args.op 1 c.if-op-ne1.true)

pub returns-then-balance-kept : goal.returns-then-balance-kept
unfolding value_by
returns-then-balance-kept c = rw (ne_eqb c.args.op 0 c.if-op-eq0.false, eq-eqb c.args.op 1 (omega (arith, c.if-op-ne1.false))) (omega (arith, c.if-balance-kept.true))

pub returns : goal.returns
unfolding value_by
returns c = rw (ne_eqb c.args.op 0 c.if-op-eq0.false, eq-eqb c.args.op 1 (omega (arith, c.if-op-ne1.false)))

use native.Mathlib.Omega.{arith}
use native.Mathlib.Nat.{div-le_self}
use borrow.Author.Tests.{eq-eqb, ne_eqb}
use Rattle.definitions_wait.specs.Wait.{closes_for}
use Rattle.activation_wait.proofs.closes_for.Goals as goal

pub returns-then-m-eq0 : goal.returns-then-m-eq0
unfolding closes_for
returns-then-m-eq0 c = rw (eq-eqb _ _ c.if-m-eq0.true)

pub returns : goal.returns
unfolding closes_for
returns c = rw (ne_eqb _ _ c.if-m-eq0.false)

pub overflow_add-result : goal.overflow_add-result
overflow_add-result c = omega (arith, div-le_self c.args.k c.args.m, c.requires)

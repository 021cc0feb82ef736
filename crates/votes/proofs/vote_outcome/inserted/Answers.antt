use borrow.Author.Tests.{eq-eqb, ne_eqb, lt-ltb, le-ltb}
use native.Mathlib.Omega.{arith}
use Rattle.votes.specs.Epochs.{insert_into}
use Rattle.votes.proofs.vote_outcome.inserted.Goals as goal

pub returns-then-list-eq0 : goal.returns-then-list-eq0
unfolding insert_into
returns-then-list-eq0 c = record { is = rw (eq-eqb _ _ c.if-list-eq0.true); most = omega arith }

pub returns-then-e-list : goal.returns-then-e-list
unfolding insert_into
returns-then-e-list c = record { is = rw (ne_eqb _ _ c.if-list-eq0.false, lt-ltb _ _ c.if-e-list.true); most = omega arith }

pub returns-then-e-list-2 : goal.returns-then-e-list-2
unfolding insert_into
returns-then-e-list-2 c = record { is = rw (ne_eqb _ _ c.if-list-eq0.false, le-ltb _ _ c.if-e-list.false, eq-eqb _ _ c.if-e-list-2.true); most = omega arith }

pub returns-then-list-eq1 : goal.returns-then-list-eq1
unfolding insert_into
returns-then-list-eq1 c = record { is = rw (ne_eqb _ _ c.if-list-eq0.false, le-ltb _ _ c.if-e-list.false, ne_eqb _ _ c.if-e-list-2.false, eq-eqb _ _ c.if-list-eq1.true); most = omega arith }

pub returns-then-e-list-3 : goal.returns-then-e-list-3
unfolding insert_into
returns-then-e-list-3 c = record { is = rw (ne_eqb _ _ c.if-list-eq0.false, le-ltb _ _ c.if-e-list.false, ne_eqb _ _ c.if-e-list-2.false, ne_eqb _ _ c.if-list-eq1.false, lt-ltb _ _ c.if-e-list-3.true); most = omega arith }

pub returns-then-e-list-4 : goal.returns-then-e-list-4
unfolding insert_into
returns-then-e-list-4 c = record { is = rw (ne_eqb _ _ c.if-list-eq0.false, le-ltb _ _ c.if-e-list.false, ne_eqb _ _ c.if-e-list-2.false, ne_eqb _ _ c.if-list-eq1.false, le-ltb _ _ c.if-e-list-3.false, eq-eqb _ _ c.if-e-list-4.true); most = omega arith }

pub returns-then-list-eq2 : goal.returns-then-list-eq2
unfolding insert_into
returns-then-list-eq2 c = record { is = rw (ne_eqb _ _ c.if-list-eq0.false, le-ltb _ _ c.if-e-list.false, ne_eqb _ _ c.if-e-list-2.false, ne_eqb _ _ c.if-list-eq1.false, le-ltb _ _ c.if-e-list-3.false, ne_eqb _ _ c.if-e-list-4.false, eq-eqb _ _ c.if-list-eq2.true); most = omega arith }

pub returns-then-e-list-5 : goal.returns-then-e-list-5
unfolding insert_into
returns-then-e-list-5 c = record { is = rw (ne_eqb _ _ c.if-list-eq0.false, le-ltb _ _ c.if-e-list.false, ne_eqb _ _ c.if-e-list-2.false, ne_eqb _ _ c.if-list-eq1.false, le-ltb _ _ c.if-e-list-3.false, ne_eqb _ _ c.if-e-list-4.false, ne_eqb _ _ c.if-list-eq2.false, lt-ltb _ _ c.if-e-list-5.true); most = omega arith }

pub returns-then-e-list-6 : goal.returns-then-e-list-6
unfolding insert_into
returns-then-e-list-6 c = record { is = rw (ne_eqb _ _ c.if-list-eq0.false, le-ltb _ _ c.if-e-list.false, ne_eqb _ _ c.if-e-list-2.false, ne_eqb _ _ c.if-list-eq1.false, le-ltb _ _ c.if-e-list-3.false, ne_eqb _ _ c.if-e-list-4.false, ne_eqb _ _ c.if-list-eq2.false, le-ltb _ _ c.if-e-list-5.false, eq-eqb _ _ c.if-e-list-6.true); most = omega arith }

pub returns : goal.returns
unfolding insert_into
returns c = record { is = rw (ne_eqb _ _ c.if-list-eq0.false, le-ltb _ _ c.if-e-list.false, ne_eqb _ _ c.if-e-list-2.false, ne_eqb _ _ c.if-list-eq1.false, le-ltb _ _ c.if-e-list-3.false, ne_eqb _ _ c.if-e-list-4.false, ne_eqb _ _ c.if-list-eq2.false, le-ltb _ _ c.if-e-list-5.false, ne_eqb _ _ c.if-e-list-6.false); most = omega arith }

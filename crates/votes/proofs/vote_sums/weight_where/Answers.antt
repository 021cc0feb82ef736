use borrow.Author.Tests.{eq-eqb, ne_eqb, not-true, not-false}
use mathlib.Core.Path.{ap}
use mathlib.Core.Bool.{not}
use Rattle.votes.proofs.vote_sums.weight_where.Goals as goal

pub returns-then-not-active : goal.returns-then-not-active
returns-then-not-active c = rw (not-true c.args.active (ap not c.if-not-active.true))

pub returns-then-not-hit : goal.returns-then-not-hit
returns-then-not-hit c = let a = c.args in rw (not-false a.active (ap not c.if-not-active.false), not-true a.hit (ap not c.if-not-hit.true))

pub returns-then-slashed-eq1 : goal.returns-then-slashed-eq1
returns-then-slashed-eq1 c = let a = c.args in rw (not-false a.active (ap not c.if-not-active.false), not-false a.hit (ap not c.if-not-hit.false), eq-eqb _ _ c.if-slashed-eq1.true)

pub returns : goal.returns
returns c = let a = c.args in rw (not-false a.active (ap not c.if-not-active.false), not-false a.hit (ap not c.if-not-hit.false), ne_eqb _ _ c.if-slashed-eq1.false)

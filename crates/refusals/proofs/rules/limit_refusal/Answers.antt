use native.Mathlib.Omega.{arith}
use borrow.Author.Tests.{eq-eqb, ne_eqb}
use Rattle.refusals.proofs.All.{fails, passes}
use Rattle.refusals.specs.Refusal.{limit_refusal}
use mathlib.Core.Path.{sym, ap, ◌∙◌}
use mathlib.Core.Bool.{not}
use Rattle.refusals.proofs.rules.limit_refusal.Goals as goal

pub returns-then-misshapen : goal.returns-then-misshapen
unfolding limit_refusal
returns-then-misshapen c = let a = c.args in rw (sym c.misshapen.ensures ∙ c.if-misshapen.true)

pub returns-then-not-good_limit : goal.returns-then-not-good_limit
unfolding limit_refusal
returns-then-not-good_limit c =
    let a = c.args in
    rw (sym c.misshapen.ensures ∙ c.if-misshapen.false, fails c.good_limit.ensures (ap not c.if-not-good_limit.true))

pub returns : goal.returns
unfolding limit_refusal
returns c =
    let a = c.args in
    rw (sym c.misshapen.ensures ∙ c.if-misshapen.false, passes c.good_limit.ensures (ap not c.if-not-good_limit.false))

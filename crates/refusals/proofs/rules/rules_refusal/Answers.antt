use native.Mathlib.Omega.{arith}
use borrow.Author.Rules.{rules}
use borrow.Author.Tests.{eq-eqb, ne_eqb, le-leb, lt-leb}
use Rattle.refusals.proofs.All.{fails, passes}
use Rattle.refusals.specs.Refusal.{rules_refusal}
use mathlib.Core.Path.{sym, ap, ◌∙◌}
use mathlib.Core.Bool.{not}
use Rattle.refusals.proofs.rules.rules_refusal.Goals as goal

pub returns-then-fork-gt1 : goal.returns-then-fork-gt1
unfolding rules_refusal
returns-then-fork-gt1 c = let a = c.args in rw (lt-leb a.rules.fork 1 (omega (arith, c.if-fork-gt1.true)))

pub returns-then-misshapen : goal.returns-then-misshapen
unfolding rules_refusal
returns-then-misshapen c =
    let a = c.args in
    rw (le-leb a.rules.fork 1 (omega (arith, c.if-fork-gt1.false)), sym c.misshapen.ensures ∙ c.if-misshapen.true)

pub returns-then-fork-eq0 : goal.returns-then-fork-eq0
unfolding rules_refusal
returns-then-fork-eq0 c =
    let a = c.args in
    rw (le-leb a.rules.fork 1 (omega (arith, c.if-fork-gt1.false)), sym c.misshapen.ensures ∙ c.if-misshapen.false, eq-eqb a.rules.fork 0 (omega (arith, c.if-fork-eq0.true)))

pub returns-then-not-good_bellatrix : goal.returns-then-not-good_bellatrix
unfolding rules_refusal
returns-then-not-good_bellatrix c =
    let a = c.args in
    rw (le-leb a.rules.fork 1 (omega (arith, c.if-fork-gt1.false)), sym c.misshapen.ensures ∙ c.if-misshapen.false, ne_eqb a.rules.fork 0 (λ e. omega (arith, e, c.if-fork-eq0.false)), fails c.good_bellatrix.ensures (ap not c.if-not-good_bellatrix.true))

pub returns : goal.returns
unfolding rules_refusal
returns c =
    let a = c.args in
    rw (le-leb a.rules.fork 1 (omega (arith, c.if-fork-gt1.false)), sym c.misshapen.ensures ∙ c.if-misshapen.false, ne_eqb a.rules.fork 0 (λ e. omega (arith, e, c.if-fork-eq0.false)), passes c.good_bellatrix.ensures (ap not c.if-not-good_bellatrix.false))

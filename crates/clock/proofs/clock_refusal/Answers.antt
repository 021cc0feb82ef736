use borrow.Author.Tests.{eq-eqb, ne_eqb, lt-ltb, le-ltb}
use Rattle.definitions_clock.specs.Calls.{clock_tests}
use Rattle.clock.proofs.clock_refusal.Goals as goal

pub returns-then-c-eq0 : goal.returns-then-c-eq0
unfolding clock_tests
returns-then-c-eq0 c = rw (eq-eqb _ _ c.if-c-eq0.true)

pub returns-then-c-eq0-2 : goal.returns-then-c-eq0-2
unfolding clock_tests
returns-then-c-eq0-2 c = rw (ne_eqb _ _ c.if-c-eq0.false, eq-eqb _ _ c.if-c-eq0-2.true)

pub returns-then-c-lt281474976710656 : goal.returns-then-c-lt281474976710656
unfolding clock_tests
returns-then-c-lt281474976710656 c = rw (ne_eqb _ _ c.if-c-eq0.false, ne_eqb _ _ c.if-c-eq0-2.false, lt-ltb _ _ c.if-c-lt281474976710656.true)

pub returns : goal.returns
unfolding clock_tests
returns c = rw (ne_eqb _ _ c.if-c-eq0.false, ne_eqb _ _ c.if-c-eq0-2.false, le-ltb _ _ c.if-c-lt281474976710656.false)

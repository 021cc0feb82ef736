use mathlib.Core.Path.{sym}
use native.Mathlib.Omega.{arith}
use borrow.Author.Tests.{ne_eqb}
use Rattle.definitions.specs.Lists.{sum}
use Rattle.shelf.proofs.Lengths.{sum_more, sum-none, left-none}
use Rattle.shelf.proofs.sums_to.Goals as goal

pub loop-n-init : goal.loop-n-init
loop-n-init c = (omega arith, omega arith)

pub returns-then-left-n : goal.returns-then-left-n
returns-then-left-n c = let a = c.args in let l = c.loop-n in sym (ne_eqb (sum a.lengths.now) a.total (λ e. omega (arith, sum_more a.lengths.now l.n-index c.loop-n-test.true)))

pub loop-n-preserved : goal.loop-n-preserved
loop-n-preserved c = let a = c.args in let l = c.loop-n in (omega arith, omega (arith, sum_more a.lengths.now l.n-index c.loop-n-test.true))

pub returns : goal.returns
returns c = let a = c.args in left-none (sum a.lengths.now) c.loop-n.left a.total (omega (arith, sum-none a.lengths.now c.loop-n.n-index c.loop-n-test.false))

use native.Mathlib.Omega.{arith}
use lib.Count.{leading_le}
use Rattle.definitions.specs.Document.Phase0.Helpers.{root_within, integer_squareroot}
use Rattle.arithmetic.proofs.Newton.{first, exponent, turn, falls, root}
use Rattle.laws.proofs.SquareRoot.{root-only}
use Rattle.arithmetic.proofs.integer_sqrt.Goals as goal

pub returns-then-n-eq0 : goal.returns-then-n-eq0
unfolding integer_squareroot root_within
returns-then-n-eq0 c = rw c.if-n-eq0.true

pub loop-r-init : goal.loop-r-init
loop-r-init c = first c.args.n (omega arith) c.ranges.n.fits

pub loop-r-smaller : goal.loop-r-smaller
loop-r-smaller c = falls _ _ c.loop-r-test.true

pub loop-r-preserved : goal.loop-r-preserved
loop-r-preserved c = turn _ _ c.loop-r.invariant c.loop-r-test.true

pub returns : goal.returns
returns c = root-only _ _ (root _ _ c.loop-r.invariant c.loop-r-test.false)

pub overflow_sub-r : goal.overflow_sub-r
overflow_sub-r c = omega (arith, leading_le 64 c.args.n)

pub overflow_shl-r : goal.overflow_shl-r
overflow_shl-r c = omega (arith, exponent c.args.n c.ranges.n.fits)

-- The loop keeps r at or above the root; r falls, and stops at the root.
use Rattle.arithmetic.proofs.Newton.{Near}
use Rattle.arithmetic.proofs.integer_sqrt.Given as goal

abbrev pub invariant-loop-r : goal.invariant-loop-r
invariant-loop-r l = Near l.n l.r

abbrev pub decreases-loop-r : goal.decreases-loop-r
decreases-loop-r l = l.r
